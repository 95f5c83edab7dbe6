-- What is known of the roots so far: at first, after each root, and where one fails.
use Rattle.std.proofs.Common.{◌≡◌, ◌∙◌, ℕ, Bool, List, [], refl, sym, ap, subst}
use Rattle.irtext_base.specs.declared.text.AttrText as attr_text
use Rattle.irtext_base.specs.declared.text.IrText as ir_text
use Rattle.irtext_context.specs.Context.{ContextView}
use Rattle.irtext_stream.specs.Classes.{after_spaces}
use Rattle.irtext_parse_state.specs.FromText.{at_beginning}
use Rattle.irtext_formatter.specs.Lines.{then_root}
use Rattle.irtext_formatter.specs.Rows.{follows, GivesRoot, FailsHere, Rows, Rows.{none, more}, Formats, Formats.{empty, roots}, FailsWith}
use Rattle.irtext_formatter.specs.Stands.{place_of, held_by, GoesOn, IsGoing, IsKept, Stands}
use Rattle.irtext_formatter.specs.declared.fault.Fault as fault
use Rattle.irtext_formatter.specs.declared.fault.Fault.TheVariants as of_fault
use Rattle.irtext_formatter.specs.declared.format.Kept.{Kept}
use Rattle.irtext_formatter.specs.declared.format.Kept.TheVariants.{All, Last}
use Rattle.irtext_formatter.specs.declared.layout.Layout.{Layout}
use Rattle.irtext_formatter.specs.declared.roots.Roots.{Roots}

module _ {T A : Type 0} (types : ir_text.Ghosts T A) (owns : ir_text.Ghosts A A) (attributes : attr_text.Ghosts A A) (same : A → A → Bool) (layout : Layout) (text : List ℕ) (ctx : ContextView T A) where
  -- no root was parsed yet
  pub begun : (r : Roots T A) (out : List ℕ) (left : Bool) → place_of r ≡ after_spaces (at_beginning text) → held_by r ≡ ctx → left ≡ follows (at_beginning text).rest → out ≡ []
      → Stands types owns attributes same layout text ctx out left r
  begun r out left place held is bare = record {
    going = λ e. record {
      at = at_beginning text;
      rows = subst (λ o. Rows types owns attributes same layout text ctx o (at_beginning text) (held_by r)) (sym bare) (subst (Rows types owns attributes same layout text ctx [] (at_beginning text)) (sym held) none);
      place = place;
      more = sym is ∙ e;
    };
    done = λ e. subst (λ o. Formats types owns attributes same layout text ctx o (held_by r)) (sym bare) (subst (Formats types owns attributes same layout text ctx []) (sym held) (empty (sym is ∙ e)));
  }

  -- one more root was printed
  pub stepped : (old new : Roots T A) (so_far out root : List ℕ) (followed : Bool) → IsGoing types owns attributes same layout text ctx so_far old → GoesOn types owns attributes same layout root followed old new → out ≡ then_root so_far root
      → Stands types owns attributes same layout text ctx out followed new
  stepped old new so_far out root followed going g is =
      let gives = subst (λ v. GivesRoot types owns attributes same layout v (held_by old) root g.next g.shown) going.place g.gives in
      record {
        going = λ e. record {
          at = g.next;
          rows = subst (λ o. Rows types owns attributes same layout text ctx o g.next (held_by new)) (sym is) (more going.rows going.more gives (sym g.is_followed ∙ e) (g.left e).0);
          place = g.place;
          more = sym g.is_followed ∙ e;
        };
        done = λ e. subst (λ o. Formats types owns attributes same layout text ctx o (held_by new)) (sym is)
            (subst (Formats types owns attributes same layout text ctx (then_root so_far root)) (sym (g.last e)) (roots going.rows going.more gives (sym g.is_followed ∙ e)));
      }

  -- the next root fails
  pub failed : (old : Roots T A) (so_far : List ℕ) (f : fault.Fault A) → IsGoing types owns attributes same layout text ctx so_far old → FailsHere types owns attributes same layout (place_of old) (held_by old) f
      → FailsWith types owns attributes same layout text ctx f
  failed old so_far of_fault.Memory going h = tt
  failed old so_far (of_fault.Rejected g) going h = record { so_far = so_far; at = going.at; before = held_by old; rows = going.rows; more = going.more; fails = subst (λ v. FailsHere types owns attributes same layout v (held_by old) (of_fault.Rejected g)) going.place h }
  failed old so_far (of_fault.Misfit m) going h = record { so_far = so_far; at = going.at; before = held_by old; rows = going.rows; more = going.more; fails = subst (λ v. FailsHere types owns attributes same layout v (held_by old) (of_fault.Misfit m)) going.place h }
  failed old so_far of_fault.TooDeep going h = record { so_far = so_far; at = going.at; before = held_by old; rows = going.rows; more = going.more; fails = subst (λ v. FailsHere types owns attributes same layout v (held_by old) of_fault.TooDeep) going.place h }

-- a text is kept as itself
pub kept_first : (kept : Kept) (text : List ℕ) → IsKept kept text text
kept_first All text = refl
kept_first Last text = tt

-- after one more root, the texts are still kept
pub kept_on : (kept : Kept) (printed old room root new : List ℕ) → IsKept kept printed old → IsKept kept old room → new ≡ then_root room root → IsKept kept (then_root printed root) new
kept_on All printed old room root new before cleared is = is ∙ ap (λ text. then_root text root) (cleared ∙ before)
kept_on Last printed old room root new before cleared is = tt
