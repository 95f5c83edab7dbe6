-- A location that is parsed leaves no more than its text, where no attribute does.
use Rattle.std.proofs.Common.{ℕ, ◌≤◌, [], length, refl}
use Rattle.irtext_base.specs.Text.{Text}
use Rattle.irtext_base.specs.Answers.{Outcome, Read, Missing, Bad}
use Rattle.irtext_base.specs.Locations.{AttrView, no_location}
use Rattle.irtext_base.specs.Paths.{Written}
use Rattle.irtext_tokens.specs.Infix.{Reader}
use Rattle.irtext_grammar.specs.Readers.RestLengths.{Leaves, LeavesNoMore}
use Rattle.irtext_grammar.specs.Readers.Locations.{WrittenRow, metadata_at, after_location, row_of, location_within, more_within}
use Rattle.irtext_grammar.proofs.Readers.Honest.{Keeps, keeps_metadata, keeps_within, keeps_more_within}
use Rattle.irtext_grammar.proofs.Locations.RestLengths.{Within, ◌so◌, seen, within_either, within_honest, within_no_more, leaves_read, leaves_bad, leaves_prefixed}

module _ {b : ℕ} where
  module _ {A : Type 0} (inner : Reader (Written A)) (more : Reader (WrittenRow A)) where
    leaves_row : ((l : Written A) → Within b (after_location inner more l)) → (o : Outcome (Written A))
        → (text : Text) → length text ≤ b → Leaves b o → Leaves b (row_of inner more o text)
    leaves_row h (Read l taken rest) text i k =
        leaves_prefixed b taken _ ((h l).leaves rest (k.by l taken rest refl))
    leaves_row h (Missing cause) text i k = leaves_read b no_location [] text i
    leaves_row h (Bad cause upto) text i k = leaves_bad b cause upto

  within_keeps : Keeps (λ X f. Within b f)
  within_keeps = record {
    honest = within_honest;
    follows = ◌so◌;
    sees = seen;
    one_of = within_either;
    row = λ inner more i h. record {
      leaves = λ text j. leaves_row inner more h (inner text) text j (i.leaves text j);
    };
  }

  module _ {A : Type 0} {attr : Reader (AttrView A)} (no_more : LeavesNoMore attr) where
    -- metadata leaves no more than its text
    pub within_metadata : Within b (metadata_at attr)
    within_metadata = keeps_metadata within_keeps (within_no_more no_more)

    -- a location leaves no more than its text
    pub within_location : (n : ℕ) → Within b (location_within attr n)
    within_location = keeps_within within_keeps (within_no_more no_more)

    within_more : (n : ℕ) → Within b (more_within attr n)
    within_more = keeps_more_within within_keeps (within_no_more no_more)

-- a location, and those that follow one, leave no more than the text
pub leaves_within : {A : Type 0} (attr : Text → Outcome (AttrView A)) (no_more : LeavesNoMore attr) (n b : ℕ) (text : Text)
    → length text ≤ b → Leaves b (location_within attr n text) × Leaves b (more_within attr n text)
leaves_within attr no_more n b text h =
    ((within_location no_more n).leaves text h, (within_more no_more n).leaves text h)
