-- The list of what was made, without what was erased, keeps all live objects.
use Rattle.std.proofs.Common.{◌≡◌, ◌≤◌, ◌∙◌, ◌∷◌, ℕ, zero, suc, refl, sym, ap, subst, arith, Bool, true, false, cond, is_some, filter, Option, Some, None, List, [], map, slice_get}
use Rattle.std.specs.Option.{option_map}
use Rattle.irtext_graph.specs.declared.object.Object.{Object}
use Rattle.irtext_graph.specs.declared.objects.Objects.{Objects}
use Rattle.irtext_graph.specs.Content.{Content}
use Rattle.irtext_graph.specs.Log.{Made, age, IsByAge, IsLogged, is_live}
use Rattle.irtext_graph.specs.Objects.{what, born_of}
use Rattle.irtext_graph.proofs.Logs.{age_what}

module _ {X : Type 0} (p : X → Bool) where
  -- what is in the shorter list was in the longer
  in_list : (xs : List X) (k : ℕ) (x : X) → slice_get (filter p xs) k ≡ Some x → (j : ℕ) × (slice_get xs j ≡ Some x)
  in_list [] k x e = absurd (cc)
  in_list (y ∷ ys) k x e = go (λ k e. let i = in_list ys k x e in (suc i.0, i.1)) (p y) k e
    where
      go : ((k : ℕ) → slice_get (filter p ys) k ≡ Some x → (j : ℕ) × (slice_get (y ∷ ys) j ≡ Some x)) → (t : Bool) (k : ℕ) → slice_get (cond t (y ∷ filter p ys) (filter p ys)) k ≡ Some x → (j : ℕ) × (slice_get (y ∷ ys) j ≡ Some x)
      go later true zero e = (0, e)
      go later true (suc k) e = later k e
      go later false k e = later k e

  -- what passes is in the shorter list
  in_filter : (xs : List X) (k : ℕ) (x : X) → slice_get xs k ≡ Some x → p x ≡ true → (j : ℕ) × (slice_get (filter p xs) j ≡ Some x)
  in_filter [] k x e t = absurd (cc)
  in_filter (y ∷ ys) zero x e t =
      let s : y ≡ x = cc in
      let here : p y ≡ true = ap p s ∙ t in
      (0, ap (λ b. slice_get (cond b (y ∷ filter p ys) (filter p ys)) 0) here ∙ e)
  in_filter (y ∷ ys) (suc k) x e t = let i = in_filter ys k x e t in go (p y) i.0 i.1
    where
      go : (b : Bool) (j : ℕ) → slice_get (filter p ys) j ≡ Some x → (i : ℕ) × (slice_get (cond b (y ∷ filter p ys) (filter p ys)) i ≡ Some x)
      go true j e = (suc j, e)
      go false j e = (j, e)

-- the images of what passes
filter_images : {X Y : Type 0} (f : X → Y) (p : Y → Bool) (xs : List X) → filter p (map f xs) ≡ map f (filter (λ x. p (f x)) xs)
filter_images f p [] = refl
filter_images f p (x ∷ xs) = go (filter_images f p xs) (p (f x))
  where
    go : filter p (map f xs) ≡ map f (filter (λ x. p (f x)) xs) → (t : Bool) → cond t (f x ∷ filter p (map f xs)) (filter p (map f xs)) ≡ map f (cond t (x ∷ filter (λ x. p (f x)) xs) (filter (λ x. p (f x)) xs))
    go rest true = ap (λ ys. f x ∷ ys) rest
    go rest false = rest

-- the shorter list goes by age too
by_age : (p : Made → Bool) (xs : List Made) → IsByAge xs → IsByAge (filter p xs)
by_age p [] h = h
by_age p (x ∷ xs) h = go (by_age p xs (λ j k a b le e f. h (suc j) (suc k) a b (omega (arith, le)) e f)) (p x)
  where
    first : (k : ℕ) (b : Made) → slice_get (filter p xs) k ≡ Some b → x.born ≤ b.born
    first k b f = let i = in_list p xs k b f in h 0 (suc i.0) x b (omega arith) refl i.1

    go : IsByAge (filter p xs) → (t : Bool) → IsByAge (cond t (x ∷ filter p xs) (filter p xs))
    go rest false j k a b le e f = rest j k a b le e f
    go rest true zero zero a b le e f = let s : a ≡ b = cc in let q : a.born ≡ b.born = ap (λ (m : Made). m.born) s in omega (arith, q)
    go rest true zero (suc k) a b le e f = let s : x ≡ a = cc in subst (λ (m : Made). m.born ≤ b.born) s (first k b f)
    go rest true (suc j) zero a b le e f = absurd (omega (arith, le))
    go rest true (suc j) (suc k) a b le e f = rest j k a b (omega (arith, le)) e f

module _ {O B T : Type 0} where
  -- an object with an age is live
  aged : (x : Objects O B T) (o : Object) (b : ℕ) → age x o ≡ Some b → is_some (what x o) ≡ true
  aged x o b e = go (what x o) (sym (age_what x o) ∙ e)
    where
      go : (s : Option (Content O B T)) → option_map born_of s ≡ Some b → is_some s ≡ true
      go None e = absurd (cc)
      go (Some c) e = refl

  -- whether the object of an entry is live
  abbrev live_in : Objects O B T → Made → Bool
  live_in x m = is_live x m.object

  pub logged_live : (made : ℕ) (log after : List Object) (x : Objects O B T) → after ≡ filter (is_live x) log → IsLogged made log x → IsLogged made after x
  logged_live made log after x e i = record {
    entries = filter (live_in x) i.entries;
    objects = e ∙ ap (filter (is_live x)) i.objects ∙ filter_images (λ (m : Made). m.object) (is_live x) i.entries;
    all = record {
      listed = λ o b f. let k = i.all.listed o b f in in_filter (live_in x) i.entries k.0 (record { born = b; object = o }) k.1 (aged x o b f);
      by_age = by_age (live_in x) i.entries i.all.by_age;
      below = λ k a f. let j = in_list (live_in x) i.entries k a f in i.all.below j.0 a j.1;
      reached = λ k a b f g. let j = in_list (live_in x) i.entries k a f in i.all.reached j.0 a b j.1 g;
    };
  }
