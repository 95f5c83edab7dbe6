-- The test of equality of objects.
use Rattle.std.proofs.Common.{◌≡◌, ℕ, Bool, true, false, ◌&&◌, refl, ap}
use Rattle.std.proofs.lemmas.Bool.{eqb-true, eq-eqb}
use Rattle.std.specs.declared.marker.PhantomData.{PhantomData}
use Rattle.irtext_graph.specs.declared.arena.Ptr.{Ptr}
use Rattle.irtext_graph.specs.declared.object.Object.{Object}
use Rattle.irtext_graph.specs.declared.object.Object.TheVariants.{TheOperation, TheBlock, TheRegion}
use Rattle.irtext_graph.specs.Objects.{eq_ptr, eq_object}
use Rattle.irtext_graph.proofs.Nests.{Tells}

pub both : (a b : Bool) → (a && b) ≡ true → (a ≡ true) × (b ≡ true)
both true b p = (refl, p)
both false b p = cc

pub all : (a b : Bool) → a ≡ true → b ≡ true → (a && b) ≡ true
all a b p q = rw (p, q) refl

pub ptr_same : {K : Type 0} (p q : Ptr K) → p.index ≡ q.index → p.generation ≡ q.generation → p ≡ q
ptr_same {K} p q e f = go p.index p.generation q.index q.generation p.of q.of e f
  where
    go : (a b c d : ℕ) (o o' : PhantomData K) → a ≡ c → b ≡ d → ◌≡◌ {A = Ptr K} (record { index = a; generation = b; of = o }) (record { index = c; generation = d; of = o' })
    go a b c d o o' e f = rw (e, f) refl

pub ptr_tells : {K : Type 0} → Tells (eq_ptr {K = K})
ptr_tells {K} = record {
  same = λ p. all _ _ (eq-eqb p.index p.index refl) (eq-eqb p.generation p.generation refl);
  sound = λ p q e. let k = both _ _ e in ptr_same p q (eqb-true _ _ k.0) (eqb-true _ _ k.1);
}

object_same : (x : Object) → eq_object x x ≡ true
object_same (TheOperation p) = ptr_tells.same p
object_same (TheBlock p) = ptr_tells.same p
object_same (TheRegion p) = ptr_tells.same p

object_sound : (x y : Object) → eq_object x y ≡ true → x ≡ y
object_sound (TheOperation p) (TheOperation q) e = ap TheOperation (ptr_tells.sound p q e)
object_sound (TheBlock p) (TheBlock q) e = ap TheBlock (ptr_tells.sound p q e)
object_sound (TheRegion p) (TheRegion q) e = ap TheRegion (ptr_tells.sound p q e)
object_sound (TheOperation p) (TheBlock q) e = absurd (cc)
object_sound (TheOperation p) (TheRegion q) e = absurd (cc)
object_sound (TheBlock p) (TheOperation q) e = absurd (cc)
object_sound (TheBlock p) (TheRegion q) e = absurd (cc)
object_sound (TheRegion p) (TheOperation q) e = absurd (cc)
object_sound (TheRegion p) (TheBlock q) e = absurd (cc)

pub object_tells : Tells eq_object
object_tells = record { same = object_same; sound = object_sound }
