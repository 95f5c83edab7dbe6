-- The pieces that are names, of values or of blocks.
use Rattle.std.proofs.Common.{◌≡◌, ℕ, Bool, List, refl}
use Rattle.irtext_base.specs.Answers.{Outcome, mapped}
use Rattle.irtext_base.specs.Locations.{AttrView}
use Rattle.irtext_base.specs.Text.{Text}
use Rattle.irtext_tokens.specs.ListOutcomes.{separated_at}
use Rattle.irtext_grammar.specs.declared.parsed.Setting.{Setting}
use Rattle.irtext_grammar.specs.Grammar.Tree.{Name}
use Rattle.irtext_grammar.specs.Heads.{flat, piece_at}
use Rattle.irtext_grammar.specs.declared.parsed.NameKind.{NameKind}
use Rattle.irtext_grammar.specs.declared.parsed.NameKind.TheVariants as kind
use Rattle.irtext_grammar.specs.declared.parsed.ReadName.{ReadName}
use Rattle.irtext_parse_pieces.specs.Kinds.{named_at, names_directive, names_tree}
use Rattle.irtext_grammar.specs.Forms.{read_names}
use Rattle.irtext_grammar.specs.Parsed.{Represents, Each, IsPiece}

-- what the directive of all names of a kind parses
pub names_step : {T A : Type 0} (types : Text → Outcome T) (attr : Text → Outcome (AttrView A)) (setting : Setting) (kind : NameKind) (u : Text) → piece_at types attr setting (flat (names_directive kind)) u ≡ mapped (names_tree kind) (separated_at 44 (named_at kind setting.inside) u)
names_step types attr setting kind.Value u = refl
names_step types attr setting kind.Block u = refl

-- names that represent those of the text are a piece of it
pub names_represent : (T A : Type 0) (kind : NameKind) (names : List Text) (text : Text) (y : List ReadName) (x : List (Name ℕ)) → Each (Represents names text) y x → IsPiece {T = T} {A = A} names text (read_names kind y) (names_tree kind x)
names_represent T A kind.Value names text y x m = (x, refl, m)
names_represent T A kind.Block names text y x m = (x, refl, m)
