use Rattle.std.proofs.Common.{refl}
use Rattle.std.specs.Prelude.{[], ◌∷◌, codes}
use Rattle.irtext_tokens.specs.Tokens.{word_at, id_at}
use Rattle.irtext_grammar.specs.Promises.ErrorCauses.{of_token, of_name, no_dialect, no_operation, of_type, missing}
use Rattle.irtext_tests_names.specs.CauseRows.{t}
use Rattle.irtext_tests_names.proofs.causes.causes_of_wrong_texts.Goals as goal

pub returns : goal.returns
unfolding word_at id_at
returns c = record {
  no_dialect = (refl, no_dialect (record { id = record { dialect = codes "v"; name = codes "h" }; taken = codes "v.h"; rest = codes " {}"; begins = refl; unknown = refl; is = refl }) (codes "x = ", refl));
  no_operation = (
    refl,
    no_operation (record {
      names = record { place = 7; text = codes "x" } ∷ [];
      lead = codes "x = ";
      mid = codes "t.z";
      leads = refl;
      id = t (codes "z");
      taken = codes "t.z";
      rest = [];
      begins = refl;
      known = refl;
      unknown = refl;
      is = refl;
    }) ([], refl),
  );
  no_brace = (refl, of_token refl (codes "t.h { ^b(): ", refl));
  no_colon = (refl, of_token refl (codes "t.m ", refl));
  no_scope = (refl, of_name refl (codes "t.u ", refl));
  no_type = (refl, of_type (record { start = codes "x"; later = (codes "t.m: ", refl); returns = missing refl refl; allowed = refl }));
}
