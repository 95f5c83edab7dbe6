-- What a call of a closure that prints has done.
use Rattle.std.proofs.Common.{◌≡◌, refl, subst, Result, Ok, Err, OnOk, OnErr}
use Rattle.std.specs.Borrow.{Bor, MutBor}
use Rattle.std.specs.Fn.{Shared}
use Rattle.irtext_print_ir.specs.Printers.Calls.{FnWrites, FnRefuses, FnWritesItem, FnRefusesItem}

-- a call that succeeded
pub FnWrites-on_ok : {F C S B E : Type 0} (g : Shared F (Bor C × (MutBor S × (MutBor B × Unit {0}))) (Result (Unit {0}) E × (MutBor S × (MutBor B × Unit {0})))) (f : F) (c : Bor C) (s s' : MutBor S) (b b' : MutBor B) (r : Result (Unit {0}) E) → g.post f (c, (s, (b, tt))) (r, (s', (b', tt))) → OnOk r (FnWrites g f c.now s.now b.now (Ok tt) s'.now b'.now)
FnWrites-on_ok g f c s s' b b' (Ok u) h = record { context = c; state = s; text = b; shows = (refl, refl, refl); left = (s', (b', tt)); met = h; leaves = (refl, refl) }
FnWrites-on_ok g f c s s' b b' (Err e) h = tt

-- a call that failed
pub FnRefuses-on_err : {F C S B E : Type 0} (g : Shared F (Bor C × (MutBor S × (MutBor B × Unit {0}))) (Result (Unit {0}) E × (MutBor S × (MutBor B × Unit {0})))) (f : F) (c : Bor C) (s s' : MutBor S) (b b' : MutBor B) (r : Result (Unit {0}) E) → g.post f (c, (s, (b, tt))) (r, (s', (b', tt))) → OnErr r (FnRefuses g f c.now s.now b.now s'.now b'.now)
FnRefuses-on_err g f c s s' b b' (Ok u) h = tt
FnRefuses-on_err g f c s s' b b' (Err e) h = (e, record { context = c; state = s; text = b; shows = (refl, refl, refl); left = (s', (b', tt)); met = h; leaves = (refl, refl) })

-- a call at an item that succeeded
pub FnWritesItem-at : {F X C S B E : Type 0} (g : Shared F (X × (Bor C × (MutBor S × (MutBor B × Unit {0})))) (Result (Unit {0}) E × (MutBor S × (MutBor B × Unit {0})))) (f : F) (c : Bor C) (x : X) (s s' : MutBor S) (b b' : MutBor B) (r : Result (Unit {0}) E) (u : Unit {0}) (t : S)
    → g.post f (x, (c, (s, (b, tt)))) (r, (s', (b', tt))) → r ≡ Ok u → s.now ≡ t → FnWritesItem g f (Ok tt) c.now x t b.now s'.now b'.now
FnWritesItem-at g f c x s s' b b' r u t h e k = record { context = c; state = s; text = b; shows = (refl, k, refl); left = (s', (b', tt)); met = subst (λ q. g.post f (x, (c, (s, (b, tt)))) (q, (s', (b', tt)))) e h; leaves = (refl, refl) }

-- a call at an item that failed
pub FnRefusesItem-at : {F X C S B E : Type 0} (g : Shared F (X × (Bor C × (MutBor S × (MutBor B × Unit {0})))) (Result (Unit {0}) E × (MutBor S × (MutBor B × Unit {0})))) (f : F) (c : Bor C) (x : X) (s s' : MutBor S) (b b' : MutBor B) (r : Result (Unit {0}) E) (e : E) (t : S)
    → g.post f (x, (c, (s, (b, tt)))) (r, (s', (b', tt))) → r ≡ Err e → s.now ≡ t → FnRefusesItem g f c.now x t b.now s'.now b'.now
FnRefusesItem-at g f c x s s' b b' r e t h is k = (e, record { context = c; state = s; text = b; shows = (refl, k, refl); left = (s', (b', tt)); met = subst (λ q. g.post f (x, (c, (s, (b, tt)))) (q, (s', (b', tt)))) is h; leaves = (refl, refl) })
