-- What the parsers of nested text accept is what the grammar parses, and where they accept any attribute under a reserved key the converse. Of a caller's types and attributes it is required that what they take
-- and leave is the text and, where a marker may be in place of an attribute, that attributes begin as a word does.
use Rattle.std.proofs.Common.{◌≡◌, ◌∙◌, ℕ, Bool, true, List, length, refl, sym, ap, arith, length-append}
use Rattle.irtext_base.specs.Text.{Text}
use Rattle.irtext_base.specs.Faults.{Fault}
use Rattle.irtext_base.specs.Format.{Id}
use Rattle.irtext_base.specs.Answers.{Outcome}
use Rattle.irtext_base.specs.Own.{Language, language, texts_of}
use Rattle.irtext_context.specs.Dialects.{Table}
use Rattle.irtext_tokens.specs.Infix.{Reader}
use Rattle.irtext_tokens.specs.AttrTexts.{attr_at}
use Rattle.irtext_grammar.specs.Contexts.Formats.{format_of, isolated, IsAccepted}
use Rattle.irtext_grammar.specs.Grammar.Forest.{Blocks}
use Rattle.irtext_grammar.specs.Grammar.Reads as reads
use Rattle.irtext_grammar.specs.Grammar.Tree.{Op, Head, Brace, shown, Tree}
use Rattle.irtext_grammar.specs.Readers.RestLengths.{LeavesNoMore}
use Rattle.irtext_grammar.proofs.Joins.Answers.{Splits}
use Rattle.irtext_grammar.proofs.Joins.Attributes.{splits_attr}
use Rattle.irtext_grammar.specs.Exact.{NeedsWord}
use Rattle.irtext_grammar.specs.Reached.{Advanced, Stopped, Actions, freely, region_at, operation_at, do_tree, do_blocks}
use Rattle.irtext_grammar.proofs.Exact.Head.{exact_head}
use Rattle.irtext_grammar.proofs.Exact.Lead.{exact_led}
use Rattle.irtext_grammar.proofs.Exact.Names.{exact_mark_if}
use Rattle.irtext_grammar.proofs.Exact.Outside.{inside_read}
use Rattle.irtext_grammar.proofs.Exact.Pieces.{exact_piece}
use Rattle.irtext_grammar.proofs.Knot.Found as found
use Rattle.irtext_grammar.proofs.Knot.Heads.{ReadHeads, FoundHeads}
use Rattle.irtext_grammar.proofs.Knot.Read as read
use Rattle.irtext_grammar.proofs.Seen.{Shows, shows_tree, shows_blocks}

-- a parser that takes and leaves the text leaves no more than the text
pub leaves_no_more : {X : Type 0} (at : Reader X) → Splits at → LeavesNoMore at
leaves_no_more at h = record {
  by = λ text. record { by = λ x taken rest e. omega (arith, ap length (h text x taken rest e), length-append taken rest) };
}

module _ {T A : Type 0} (types_at : Text → Outcome T) (types_written : T → Text) (reading : Text → Outcome A) (written : A → Text) (dialects : List (Text × Table)) where
  -- the language of the parsers
  abbrev pub L : Language ℕ T A
  L = language (texts_of types_at types_written) (texts_of reading written) (format_of dialects)

  module _ (types_split : Splits types_at) (splits : Splits reading) where
    heads_read : (any_key : Bool) → ReadHeads (texts_of types_at types_written) (texts_of reading written) dialects types_at (attr_at reading) any_key
    heads_read any_key = record {
      lead = λ text lead taken rest e. ((exact_led dialects (texts_of types_at types_written) (texts_of reading written)).read text lead taken rest e).0;
      head = λ text head taken rest e. ((exact_head types_at types_written reading written (format_of dialects) types_split splits).read text head taken rest e).0;
      piece = λ step text p taken rest e. (inside_read types_at types_written reading written (format_of dialects) types_split splits any_key step text p taken rest e).0;
      mark = λ text mark taken rest e. ((exact_mark_if (texts_of types_at types_written) (texts_of reading written) (format_of dialects)).read text mark taken rest e).0;
    }

    heads_found : NeedsWord reading → FoundHeads (texts_of types_at types_written) (texts_of reading written) dialects types_at (attr_at reading) true
    heads_found words = record {
      lead = λ text lead rest r. (exact_led dialects (texts_of types_at types_written) (texts_of reading written)).found text lead rest r;
      head = λ text head rest r. (exact_head types_at types_written reading written (format_of dialects) types_split splits).found text head rest r;
      piece = λ step text p rest r. (exact_piece types_at types_written reading written (format_of dialects) types_split splits step (λ _. words)).found text p rest r;
      mark = λ text mark rest r. (exact_mark_if (texts_of types_at types_written) (texts_of reading written) (format_of dialects)).found text mark rest r;
    }

    module _ {S : Type 0} (does : Actions T A S) where
      -- the actions are the same where any attribute is accepted under a reserved key
      freely_shown : Shows (λ t. t) (freely does) does
      freely_shown = record { uses = λ place id parts s. refl; late = λ place id piece s. refl; enters = λ iso s. refl; leaves = λ iso place s. refl; closes = λ place names id parts s. refl; marks = λ mark s. refl; heads = λ head s. refl }

      -- ---- where each registered format parses uniquely
      -- What an operation's parser parses inside of a region the grammar parses as a tree, and the parser has done what the tree does.
      pub tree_read : ((id : Id) → IsAccepted dialects id) → (text : Text) (s t : S) (rest : Text) → operation_at dialects types_at (attr_at reading) does true text s ≡ Advanced tt t rest
          → (x : Tree ℕ T A) × reads.reads L x text rest × (t ≡ do_tree (isolated dialects) does x s)
      tree_read accepted text s t rest e =
          let k = read.tree_read (texts_of types_at types_written) (texts_of reading written) dialects types_at (attr_at reading) does (heads_read does.any_key) (leaves_no_more types_at types_split)
          (leaves_no_more (attr_at reading) (splits_attr reading splits)) accepted text s t rest e in
          (k.0, k.1, k.2)

      -- The same for a region, which begins at its `{`.
      pub region_read : ((id : Id) → IsAccepted dialects id) → (iso : Bool) (text : Text) (s t : S) (rest : Text) → region_at dialects types_at (attr_at reading) does iso text s ≡ Advanced tt t rest
          → (bs : Blocks (Op ℕ T A) (Head ℕ T A) (Brace ℕ)) × reads.region_read L (shown (length text)) (reads.block_readings L bs) text rest
          × (t ≡ does.leaves iso (length text) (do_blocks (isolated dialects) does bs (does.enters iso s)))
      region_read accepted iso text s t rest e =
          read.region_is_read (texts_of types_at types_written) (texts_of reading written) dialects types_at (attr_at reading) does (heads_read does.any_key) (leaves_no_more types_at types_split)
          (leaves_no_more (attr_at reading) (splits_attr reading splits)) accepted iso text s t rest e

      -- ---- where attributes begin as a word does
      module _ (words : NeedsWord reading) where
        -- What the grammar parses as a tree an operation's parser parses inside of a region, if it accepts any attribute under a reserved
        -- key, and does what the tree does.
        pub tree_found : (x : Tree ℕ T A) (text rest : Text) (s : S) → reads.reads L x text rest → operation_at dialects types_at (attr_at reading) (freely does) true text s ≡ Advanced tt (do_tree (isolated dialects) does x s) rest
        tree_found x text rest s r =
            found.tree_found (texts_of types_at types_written) (texts_of reading written) dialects types_at (attr_at reading) (freely does) (heads_found words) (leaves_no_more types_at types_split)
            (leaves_no_more (attr_at reading) (splits_attr reading splits)) x text rest s r
            ∙ ap (λ t. Advanced tt t rest) (shows_tree (isolated dialects) (λ t. t) (freely does) does freely_shown x s)

        -- The same of a region.
        pub region_found : (iso : Bool) (bs : Blocks (Op ℕ T A) (Head ℕ T A) (Brace ℕ)) (text rest : Text) (s : S) → reads.region_read L (shown (length text)) (reads.block_readings L bs) text rest
            → region_at dialects types_at (attr_at reading) (freely does) iso text s ≡ Advanced tt (does.leaves iso (length text) (do_blocks (isolated dialects) does bs (does.enters iso s))) rest
        region_found iso bs text rest s r =
            found.region_is_found (texts_of types_at types_written) (texts_of reading written) dialects types_at (attr_at reading) (freely does) (heads_found words) (leaves_no_more types_at types_split)
            (leaves_no_more (attr_at reading) (splits_attr reading splits)) iso bs (length text) text rest s r
            ∙ ap (λ t. Advanced tt (does.leaves iso (length text) t) rest) (shows_blocks (isolated dialects) (λ t. t) (freely does) does freely_shown bs (does.enters iso s))

        -- Where such a parser of operations is stuck inside of a region, the grammar parses no tree.
        pub stuck_unread : (text : Text) (s t : S) (cause : Fault) (place : ℕ) → operation_at dialects types_at (attr_at reading) (freely does) true text s ≡ Stopped t cause place
            → (x : Tree ℕ T A) (rest : Text) → reads.reads L x text rest → ⊥
        stuck_unread text s t cause place e x rest r = let f = tree_found x text rest s r in cc (e, f)

        -- ---- where keys are tested
        -- What an operation's parser parses it parses, too, if it accepts any attribute under a reserved key.
        pub tree_comes : ((id : Id) → IsAccepted dialects id) → (text : Text) (s t : S) (rest : Text) → operation_at dialects types_at (attr_at reading) does true text s ≡ Advanced tt t rest
            → operation_at dialects types_at (attr_at reading) (freely does) true text s ≡ Advanced tt t rest
        tree_comes accepted text s t rest e = let k = tree_read accepted text s t rest e in tree_found k.0 text rest s k.1 ∙ ap (λ t. Advanced tt t rest) (sym k.2)

        -- And so does a region's.
        pub region_comes : ((id : Id) → IsAccepted dialects id) → (iso : Bool) (text : Text) (s t : S) (rest : Text) → region_at dialects types_at (attr_at reading) does iso text s ≡ Advanced tt t rest
            → region_at dialects types_at (attr_at reading) (freely does) iso text s ≡ Advanced tt t rest
        region_comes accepted iso text s t rest e = let k = region_read accepted iso text s t rest e in region_found iso k.0 text rest s k.1 ∙ ap (λ t. Advanced tt t rest) (sym k.2)
