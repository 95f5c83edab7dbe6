-- Steps of the parser of an entry.
use Rattle.std.proofs.Common.{◌≡◌, ℕ, Bool, true, false, List, [], Ok, Err, refl, sym, ap, subst, Option, Some}
use Rattle.std.specs.Map.{lookup}
use Rattle.std.specs.Prelude.{Vec, cond}
use Rattle.std.specs.Global.{Global}
use Rattle.irtext_base.specs.Text.{Text}
use Rattle.irtext_base.specs.Stream.{StreamView}
use Rattle.irtext_base.specs.Answers.{Outcome, mapped}
use Rattle.irtext_base.specs.Locations.{AttrView}
use Rattle.irtext_base.specs.Paths.{Written}
use Rattle.irtext_base.specs.declared.base.attributes.AttrObj.{AttrObj}
use Rattle.irtext_base.specs.declared.location.Location.{Location}
use Rattle.irtext_base.specs.declared.parsable.fault.ParseFault.{ParseFault}
use Rattle.irtext_context.specs.declared.base.item.Item.{Item}
use Rattle.irtext_parse_state.specs.States.{same_index}
use Rattle.irtext_tokens.specs.MustRead.{MustRead}
use Rattle.irtext_tokens.proofs.Steps.{alone, Passed, first, turned, refuses_seen, last_seen}
use Rattle.irtext_grammar.specs.Contexts.Held.{attribute_of}
use Rattle.irtext_grammar.specs.Grammar.Section.{Entry, of_item, of_once}
use Rattle.irtext_grammar.specs.Grammar.Tree.{Mark, ident}
use Rattle.irtext_grammar.specs.Names.Acts.{Rule}
use Rattle.irtext_grammar.specs.Readers.Directives.{attribute_at}
use Rattle.irtext_grammar.specs.Readers.Streams.{itself, replaced}
use Rattle.irtext_parse_pieces.specs.Named.{whole, MustMean}
use Rattle.irtext_grammar.specs.declared.parsed.Key.{Key}
use Rattle.irtext_parse_pieces.proofs.EntrySteps.{first_refused}
use Rattle.irtext_parse_pieces.proofs.Meanings.{must_refuse, must_whole}
use Rattle.irtext_grammar.specs.Entries.{begins_given, tested, entry_head_at, given_at, entry_at}
use Rattle.irtext_parse_locations.specs.Rules.{rule_for, is_block}
use Rattle.irtext_parse_section.specs.Said.{rules_of, rule_of_item, ArePairs}
use Rattle.irtext_parse_section.specs.Entries.{IsHead, IsGivenOver, IsEntry}
use Rattle.irtext_parse_section.specs.declared.entry.EntryHead.{EntryHead}
use Rattle.irtext_parse_locations.specs.declared.said.GivenAttr.{GivenAttr}
use Rattle.irtext_parse_locations.specs.declared.said.ReadEntry.{ReadEntry}
use Rattle.irtext_parse_locations.specs.declared.said.ReadEntry.TheVariants as read
use Rattle.irtext_parse_section.proofs.HeadSteps.{a_mark}

-- what follows the head
abbrev after_head : {A : Type 0} → (Text → Outcome (AttrView A)) → (ℕ → Rule A) → Mark ℕ → Text → Outcome (Entry ℕ A (Written A))
after_head attr rules m t = cond (begins_given t) (mapped (λ g. of_item m g.0 g.1) (given_at attr (rules m.index) t)) (mapped (of_once m) (attribute_at attr t))

module _ {A : Type 0} (attr : Text → Outcome (AttrView A)) (test : ℕ → Bool) (marks : List (ℕ × Item)) where
  -- there is no head
  pub entry_unread : {Means : ReadEntry A → Entry ℕ A (Written A) → Type 0} {old new : StreamView} {fault : ParseFault A} → MustMean {Y = EntryHead} itself replaced (IsHead (whole old)) (λ t. tested test (entry_head_at t)) old (Err fault) new
      → MustMean itself replaced Means (entry_at attr test (rules_of marks)) old (Err fault) new
  entry_unread h = must_refuse alone (first_refused alone {sees = λ _. of_once (a_mark 0 0) (ident [])} (after_head attr (rules_of marks)) h.read)

  module _ {old mid : StreamView} {head : EntryHead} (h : MustMean {A = A} itself replaced (IsHead (whole old)) (λ t. tested test (entry_head_at t)) old (Ok head) mid) where
    following : Passed alone (entry_at attr test (rules_of marks)) (after_head attr (rules_of marks) (h.meant head)) old mid
    following = first alone (after_head attr (rules_of marks)) h.read

    once_after : begins_given mid.rest ≡ false → Passed alone (entry_at attr test (rules_of marks)) (λ t. mapped (of_once (h.meant head)) (attribute_at attr t)) old mid
    once_after e = turned alone (λ t. mapped (of_once (h.meant head)) (attribute_at attr t)) (rw e refl) following

    item_following : begins_given mid.rest ≡ true → Passed alone (entry_at attr test (rules_of marks)) (λ t. mapped (λ g. of_item (h.meant head) g.0 g.1) (given_at attr (rules_of marks (h.meant head).index) t)) old mid
    item_following e = turned alone (λ t. mapped (λ g. of_item (h.meant head) g.0 g.1) (given_at attr (rules_of marks (h.meant head).index) t)) (rw e refl) following

    -- an attribute that is written once was parsed
    pub once_there : {new : StreamView} (paths : List (List ℕ)) (a : AttrObj A) → begins_given mid.rest ≡ false → MustRead {A = A} itself replaced attribute_of (attribute_at attr) mid (Ok a) new
        → MustMean {A = A} itself replaced (IsEntry marks paths (whole old)) (entry_at attr test (rules_of marks)) old (Ok (read.OfOnce head.mark.index a)) new
    once_there paths a e r =
        let m = h.meant head in
        record {
          meant = λ _. of_once m (attribute_of a);
          means = (h.means.indexed, refl);
          read = last_seen alone (λ (x : ReadEntry A). of_once m (attribute_of a)) (of_once m) (read.OfOnce head.mark.index a) refl (once_after e) r;
        }

    -- none was
    pub once_refused : {Means : ReadEntry A → Entry ℕ A (Written A) → Type 0} {new : StreamView} {fault : ParseFault A} → begins_given mid.rest ≡ false → MustRead {Y = AttrObj A} itself replaced attribute_of (attribute_at attr) mid (Err fault) new
        → MustMean itself replaced Means (entry_at attr test (rules_of marks)) old (Err fault) new
    once_refused e r = must_refuse alone (refuses_seen alone {sees = λ _. of_once (a_mark 0 0) (ident [])} (of_once (h.meant head)) (once_after e) r)

    module _ (item : Item) (carries : lookup (same_index head.mark.index) marks ≡ Some item) where
      carried : lookup (same_index (h.meant head).index) marks ≡ Some item
      carried = subst (λ i. lookup (same_index i) marks ≡ Some item) h.means.indexed carries

      its_rule : rule_for {A = A} (is_block item) ≡ rules_of marks (h.meant head).index
      its_rule = sym (ap (λ x. rule_of_item {A = A} x) carried)

      -- what an item's entry gives was parsed
      pub item_there : {new : StreamView} (paths : List (List ℕ)) (g : Option (Location A) × Vec (Key × GivenAttr A) Global) → begins_given mid.rest ≡ true
          → MustMean {A = A} itself replaced (IsGivenOver paths (whole mid)) (given_at attr (rule_for (is_block item))) mid (Ok g) new
          → MustMean {A = A} itself replaced (IsEntry marks paths (whole old)) (entry_at attr test (rules_of marks)) old (Ok (read.OfItem head.mark.index (record { item = item; location = g.0; pairs = g.1 }))) new
      item_there {new = new} paths g e k =
          let m = h.meant head in
          let v = k.meant g in
          record {
            meant = λ _. of_item m v.0 v.1;
            means = (h.means.indexed, record { item = carried; known = k.means.known; location = k.means.location; pairs = subst (λ t. ArePairs t g.1 v.1) (must_whole alone h.read) k.means.pairs });
            read = last_seen alone (λ (x : ReadEntry A). of_item m v.0 v.1) (λ g. of_item m g.0 g.1) (read.OfItem head.mark.index (record { item = item; location = g.0; pairs = g.1 })) refl (item_following e)
                (subst (λ r. MustRead {A = A} itself replaced k.meant (given_at attr r) mid (Ok g) new) its_rule k.read);
          }

      -- it was not
      pub item_refused : {Means : ReadEntry A → Entry ℕ A (Written A) → Type 0} {new : StreamView} {fault : ParseFault A} (paths : List (List ℕ)) → begins_given mid.rest ≡ true
          → MustMean {Y = Option (Location A) × Vec (Key × GivenAttr A) Global} itself replaced (IsGivenOver paths (whole mid)) (given_at attr (rule_for (is_block item))) mid (Err fault) new
          → MustMean itself replaced Means (entry_at attr test (rules_of marks)) old (Err fault) new
      item_refused {new = new} {fault = fault} paths e k =
          must_refuse alone (refuses_seen alone {sees = λ _. of_once (a_mark 0 0) (ident [])} (λ g. of_item (h.meant head) g.0 g.1) (item_following e)
          (subst (λ r. MustRead {Y = Option (Location A) × Vec (Key × GivenAttr A) Global} itself replaced k.meant (given_at attr r) mid (Err fault) new) its_rule k.read))
