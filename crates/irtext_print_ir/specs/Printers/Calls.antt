-- For callers: calls of closures that print.
use Rattle.std.specs.Prelude.{◌≡◌, Result, Err}
use Rattle.std.specs.Borrow.{Bor, MutBor}
use Rattle.std.specs.Fn.{Shared}

-- a call of the closure f as an `Fn`, with this context, state and text, may return r and leave s' and b'
pub record FnWrites {F C S B R : Type 0} (g : Shared F (Bor C × (MutBor S × (MutBor B × Unit {0}))) (R × (MutBor S × (MutBor B × Unit {0})))) (f : F) (c : C) (s : S) (b : B) (r : R) (s' : S) (b' : B) : Type 0 where
  pub context : Bor C
  pub state : MutBor S
  pub text : MutBor B
  pub shows : (context.now ≡ c) × (state.now ≡ s) × (text.now ≡ b)
  pub left : MutBor S × (MutBor B × Unit {0})
  pub met : g.post f (context, (state, (text, tt))) (r, left)
  pub leaves : (left.0.now ≡ s') × (left.1.0.now ≡ b')

-- such a call may fail
abbrev pub FnRefuses : {F C S B E : Type 0} → Shared F (Bor C × (MutBor S × (MutBor B × Unit {0}))) (Result (Unit {0}) E × (MutBor S × (MutBor B × Unit {0}))) → F → C → S → B → S → B → Type 0
FnRefuses {E = E} g f c s b s' b' = (e : E) × FnWrites g f c s b (Err e) s' b'

-- a call of the closure f as an `Fn`, with this item, context, state and text, may return r and leave s' and b'
pub record FnWritesItem {F X C S B R : Type 0} (g : Shared F (X × (Bor C × (MutBor S × (MutBor B × Unit {0})))) (R × (MutBor S × (MutBor B × Unit {0})))) (f : F) (r : R) (c : C) (x : X) (s : S) (b : B) (s' : S) (b' : B) : Type 0 where
  pub context : Bor C
  pub state : MutBor S
  pub text : MutBor B
  pub shows : (context.now ≡ c) × (state.now ≡ s) × (text.now ≡ b)
  pub left : MutBor S × (MutBor B × Unit {0})
  pub met : g.post f (x, (context, (state, (text, tt)))) (r, left)
  pub leaves : (left.0.now ≡ s') × (left.1.0.now ≡ b')

-- such a call may fail
abbrev pub FnRefusesItem : {F X C S B E : Type 0} → Shared F (X × (Bor C × (MutBor S × (MutBor B × Unit {0})))) (Result (Unit {0}) E × (MutBor S × (MutBor B × Unit {0}))) → F → C → X → S → B → S → B → Type 0
FnRefusesItem {E = E} g f c x s b s' b' = (e : E) × FnWritesItem g f (Err e) c x s b s' b'
