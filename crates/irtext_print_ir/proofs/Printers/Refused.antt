-- What a printing that failed leaves.
use Rattle.std.proofs.Common.{◌≡◌, ◌<◌, ◌≤◌, ◌+◌, ◌++◌, ℕ, ◌⊎◌, inl, inr, true, false, subst, arith, length, length-append, List, Option, Some, Result, Ok, Err, OnErr}
use Rattle.std.specs.Iterator.{Yields}
use Rattle.std.specs.List.{FoldsTo}
use Rattle.std.specs.declared.string.String.{String}
use Rattle.std.specs.declared.alloc.Global.{Global}
use Rattle.irtext_tokens.specs.declared.irfmt.separator.ListSeparator.{ListSeparator}
use Rattle.irtext_print.specs.Printers.Shown.{Shown}
use Rattle.irtext_print_ir.specs.Printers.Items.{Place, Separates, WritesItem}
use Rattle.irtext_print_ir.specs.Printers.Refused.{RefusesSeparator, StopsGiven}

-- what holds whatever was returned
pub always : {X E P : Type 0} (r : Result X E) → P → OnErr r P
always (Ok x) p = tt
always (Err e) p = p

-- a text that has no room for the second of two texts after the first had no room for both
pub full_both : (first second : List ℕ) (len : ℕ) {room more next : ℕ} → room ≤ more → next ≡ len + length first → more < next + length second → room < len + length (first ++ second)
full_both first second len grows is full = omega (arith, grows, is, full, length-append first second)

-- a list of which these items were printed, and which failed at the next one
module _ {I U X : Type 0} (steps : I → Option X → I → Type 0) (call stop : X → Shown U → String Global → Shown U → String Global → Type 0) (sep : ListSeparator) {i i' j k : I} (xs : List X) {x : X} {s t : Shown U} {b d : String Global} (p : Place U)
    (same : i ≡ i') (yielded : Yields steps i xs j) (step : steps j (Some x) k) (printed : FoldsTo (WritesItem call sep) (record { first = true; state = s; text = b }) xs p) where
  given : ((p.first ≡ false) × RefusesSeparator sep p.state p.text t d) ⊎ ((between : String Global) × Separates p.first sep p.state p.text between × stop x p.state between t d) → StopsGiven steps call stop i' sep s b t d
  given stopped = record {
    items = xs;
    next = x;
    before = j;
    after = k;
    yields = subst (λ i. Yields steps i xs j) same yielded;
    step = step;
    stops = record { reached = p; printed = printed; stopped = stopped };
  }

  -- at the separator
  pub at_separator : (p.first ≡ false) × RefusesSeparator sep p.state p.text t d → StopsGiven steps call stop i' sep s b t d
  at_separator stopped = given (inl stopped)

  -- in the call that prints it
  pub at_item : {u : Shown U} {between : String Global} → Separates p.first sep p.state p.text between → u ≡ p.state → stop x u between t d → StopsGiven steps call stop i' sep s b t d
  at_item {u} {between} separated kept stopped = given (inr (between, separated, subst (λ v. stop x v between t d) kept stopped))
