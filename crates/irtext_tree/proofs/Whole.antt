-- The heads that are parsed are those of one tree.
use Rattle.std.proofs.Common.{◌≡◌, ℕ, zero, suc, Bool, true, false, Ok, List, [], ◌∷◌, ◌++◌, refl, sym, ◌∙◌, ap, subst, append_assoc, append-nil, inl, inr}
use Rattle.std.specs.Prelude.{◌&&◌}
use Rattle.std.specs.Char.{is_whitespace}
use Rattle.irtext_base.specs.Answers.{Outcome, Read, Missing, Bad, Gives, prefixed, followed, unless_failed}
use Rattle.irtext_base.specs.Stream.{StreamView}
use Rattle.irtext_base.specs.Text.{Text, after_space, front}
use Rattle.irtext_tokens.proofs.Steps.{alone, begins_with, begun_by, ends, turned}
use Rattle.irtext_tokens.specs.Infix.{Reader, ◌▷◌}
use Rattle.irtext_tokens.specs.MustRead.{MayRead}
use Rattle.irtext_tokens.specs.Tokens.{space_at}
use Rattle.irtext_tree.proofs.Growing.{spaced_read}
use Rattle.irtext_tree.specs.GrammarLaws.{Occurs, begins_tree, waits_after, WaitsFor, Placed}
use Rattle.irtext_tree.specs.Growths.{Growth, waiting, fills, is_tree}
use Rattle.irtext_tree.specs.TreeOf.{tree_of, tree_found, whole_at, tree_at}
use Rattle.irtext_tree.specs.Trees.{grown, grown_after, heads_at}
use Rattle.irtext_tree.specs.declared.grammar.Grows as grows
use Rattle.irtext_tree.specs.declared.tree.Tree.{Tree}
use Rattle.irtext_tree.specs.declared.waits.Waits.{Waits}
use Rattle.irtext_tree.specs.declared.waits.Waits.TheVariants as waits

-- this is so of the value, if one is read
abbrev IfRead : {X : Type 0} → (X → Type 0) → Outcome X → Type 0
IfRead P (Read x taken left) = P x
IfRead P (Missing cause) = Unit {0}
IfRead P (Bad cause upto) = Unit {0}

if_more : {X : Type 0} (P Q : X → Type 0) (taken : Text) (o : Outcome X) → ((x : X) → P x → Q x) → IfRead P o → IfRead Q (prefixed taken o)
if_more P Q taken (Read x t r) f p = f x p
if_more P Q taken (Missing cause) f p = tt
if_more P Q taken (Bad cause upto) f p = tt

if_then : {X Y : Type 0} (P : X → Y → Type 0) (Q : Y → Type 0) (o : Outcome X) (k : X → Text → Outcome Y) → ((x : X) (taken left : Text) → o ≡ Read x taken left → (y : Y) → P x y → Q y) → ((x : X) (left : Text) → IfRead (P x) (k x left)) → IfRead Q (followed o k)
if_then P Q (Read x taken left) k f g = if_more (P x) Q taken (k x left) (f x taken left refl) (g x left)
if_then P Q (Missing cause) k f g = tt
if_then P Q (Bad cause upto) k f g = tt

both : (a b : Bool) → a ≡ true → b ≡ true → (a && b) ≡ true
both a b e f = rw (e, f) refl

module _ {S H : Type 0} (growth : Growth S H) (reading : S → Reader H) (placed : (s : S) → Occurs growth s → Placed growth s (reading s)) where
  -- each place that waits occurs
  abbrev AllOccur : List S → Type 0
  AllOccur [] = Unit {0}
  AllOccur (s ∷ left) = Occurs growth s × AllOccur left

  waits_occur : (h : H) (w : Waits S) (left : List S) → growth.waits h ≡ w → AllOccur left → AllOccur (waiting w left)
  waits_occur h waits.Nothing left e a = a
  waits_occur h (waits.One s) left e a = (waits_after h (subst (WaitsFor s) (sym e) refl), a)
  waits_occur h (waits.Two s t) left e a = (waits_after h (subst (WaitsFor s) (sym e) (inl refl)), (waits_after h (subst (WaitsFor t) (sym e) (inr refl)), a))

  -- the heads are those found and others that fill the places that wait
  abbrev Filling : List S → List H → List H → Type 0
  Filling left before hs = (more : List H) × (hs ≡ before ++ more) × (fills growth left more ≡ true)

  grown_fills : (n : ℕ) (left : List S) (before : List H) (text : Text) → AllOccur left → IfRead (Filling left before) (grown growth reading n left before text)
  grown_fills n [] before text a = ([], sym (append-nil before), refl)
  grown_fills zero (s ∷ left) before text a = tt
  grown_fills (suc n) (s ∷ left) before text a =
      if_then (λ h. Filling (waiting (growth.waits h) left) (before ++ (h ∷ []))) (Filling (s ∷ left) before) ((space_at ▷ reading s) text) (λ h u. grown growth reading n (waiting (growth.waits h) left) (before ++ (h ∷ [])) u)
      (λ h taken rest e hs f.
      let r = spaced_read (front is_whitespace text) (reading s (after_space text)) h taken rest e in
      (h ∷ f.0, f.1 ∙ append_assoc before (h ∷ []) f.0, both (growth.same s (growth.place h)) (fills growth (waiting (growth.waits h) left) f.0) (placed s a.0 (after_space text) h r.0 rest r.1) f.2))
      (λ h u. grown_fills n (waiting (growth.waits h) left) (before ++ (h ∷ [])) u (waits_occur h (growth.waits h) left refl a.1))

  heads_fill : (text : Text) → IfRead (λ hs. is_tree growth hs ≡ true) (heads_at growth reading text)
  heads_fill text =
      if_then (λ h. Filling (waiting (growth.waits h) []) (h ∷ [])) (λ hs. is_tree growth hs ≡ true) (reading growth.start text) (grown_after growth reading)
      (λ h taken rest e hs f. subst (λ z. is_tree growth z ≡ true) (sym f.1) (both (growth.same growth.start (growth.place h)) (fills growth (waiting (growth.waits h) []) f.0) (placed growth.start (begins_tree refl) text h taken rest e) f.2))
      (λ h u. grown_fills (suc _) (waiting (growth.waits h) []) (h ∷ []) u (waits_occur h (growth.waits h) [] refl tt))

  given : (b : Bool) (o : Outcome (List H)) (old new : StreamView) (hs : List H) → IfRead (λ z. is_tree growth z ≡ true) o → Gives (λ s. s) (λ s v. v) (unless_failed b o) old hs new → is_tree growth hs ≡ true
  given true o old new hs p g = absurd g
  given false (Read z taken left) old new hs p g = subst (λ w. is_tree growth w ≡ true) (sym g.0) p
  given false (Missing cause) old new hs p g = absurd g
  given false (Bad cause upto) old new hs p g = absurd g

  -- the heads that were parsed are those of one tree
  pub parsed_whole : {A : Type 0} {old new : StreamView} {hs : List H} → MayRead {A = A} (λ s. s) (λ s v. v) (λ x. x) (heads_at growth reading) old (Ok hs) new → is_tree growth hs ≡ true
  parsed_whole {old = old} {new = new} {hs = hs} m = given old.failed (heads_at growth reading old.rest) old new hs (heads_fill old.rest) m.answers

-- the tree of the heads that were parsed is parsed
pub parsed_tree : {S H A : Type 0} (g : grows.Ghosts S H) (reading : S → Reader H) {old new : StreamView} (t : Tree S H g) → MayRead {A = A} (λ s. s) (λ s v. v) (λ x. x) (heads_at g.growth reading) old (Ok t.heads) new → MayRead {A = A} (λ s. s) (λ s v. v) (λ x. x) (tree_at g reading) old (Ok t) new
parsed_tree {S} {H} g reading {new = new} t m =
    let k : List H → Reader (Tree S H g) = λ hs. whole_at g (tree_of g hs) in
    begun_by alone k m (ends alone (λ x. x) t (turned alone (λ u. Read t [] u) (ap (λ o. whole_at g o new.rest) (tree_found g t)) (begins_with alone k m)))
