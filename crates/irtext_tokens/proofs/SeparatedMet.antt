-- If each call of an item returns what a relation says of a text, so does the list of items with a separator.
use Rattle.std.proofs.Common.{◌≡◌, ℕ, true, false, Result, Ok, Err, List, [], ◌∷◌, ◌++◌, map, refl, sym, ◌∙◌, ap, append-nil, ◌⊎◌, inl, inr, subst}
use Rattle.std.specs.Char.{is_whitespace}
use Rattle.irtext_base.specs.Text.{Text, after_space}
use Rattle.irtext_base.specs.Stream.{StreamView, IsAt, after_taken, after_failure}
use Rattle.irtext_base.specs.Faults.{Fault, fault_of}
use Rattle.irtext_base.specs.Answers.{Outcome, Read, Missing, Bad, Takes, SameStream, RunsOut, Commits, Passes}
use Rattle.irtext_base.specs.declared.parsable.fault.ParseFault.{ParseFault}
use Rattle.irtext_base.proofs.Along.{front_after}
use Rattle.irtext_base.proofs.Compose.{takes_none, seen_after, takes_more, runs_out_in_rest, runs_out_after, commits_after}
use Rattle.irtext_tokens.specs.Lists.{Tail, none, insisted, no_more_room, next, Separated, no_item, bad_item, no_first_room, an_item, Insisted, Opens, prepended, spaces, Skips}
use Rattle.irtext_tokens.specs.ListTexts.{item_before, TailAt, ended, none_follows, bad_after, one_after, SeparatedAt, none_first, bad_first, one_first}
use Rattle.irtext_tokens.proofs.ItemsMet.{Each, settled}
use Rattle.irtext_tokens.proofs.Spelling.{begins_the, takes_next}

module _ {S X Y A : Type 0} (view : S → StreamView) (at : S → StreamView → S) (see : X → Y) (Q : Text → Outcome (List Y) → Type 0) where
  -- what a list returns on a stream that has not failed
  abbrev pub Whole : S → Result (List X) (ParseFault A) → S → Type 0
  Whole s (Ok xs) t = (k : Text) × (q : Text) × Q (view s).rest (Read (map see xs) k q) × Takes view at k q s t
  Whole s (Err f) t = RunsOut view at s f t ⊎ ((c : Fault) × (u : Text) × Q (view s).rest (Bad c u) × Commits view at c u s f t)

module _ {S F X Y A : Type 0} (view : S → StreamView) (at : S → StreamView → S) (view_at : (s : S) (v : StreamView) → view (at s v) ≡ v) (at_view : (s : S) → at s (view s) ≡ s) (at_at : (s : S) (v w : StreamView) → at (at s v) w ≡ at s w)
    (calls : F → S → Result X (ParseFault A) → F → S → Type 0) (see : X → Y) (R : Text → Outcome Y → Type 0) where
  -- one item before the items that follow it
  joined_by : (P Q : Text → Outcome (List Y) → Type 0) (s mid u : S) (x : X) (k0 q0 : Text) (r : Result (List X) (ParseFault A)) → Takes view at k0 q0 s mid
      → ((o q : Outcome (List Y)) → P (view mid).rest o → q ≡ item_before (see x) k0 o → Q (view s).rest q) → Whole {A = A} view at see P mid r u → Whole {A = A} view at see Q s (prepended (x ∷ []) r) u
  joined_by P Q s mid u x k0 q0 (Ok xs) all mk a =
      (k0 ++ a.0, a.1, mk (Read (map see xs) a.0 a.1) (Read (see x ∷ map see xs) (k0 ++ a.0) a.1) a.2 refl, takes_more view at view_at at_at s mid u k0 q0 a.0 a.1 all a.3)
  joined_by P Q s mid u x k0 q0 (Err f) all mk (inl st) = inl (runs_out_in_rest view at view_at at_at s mid u k0 q0 f all st)
  joined_by P Q s mid u x k0 q0 (Err f) all mk (inr b) =
      inr (b.0, k0 ++ b.1, mk (Bad b.0 b.1) (Bad b.0 (k0 ++ b.1)) b.2 refl, commits_after view at view_at at_at b.0 b.1 s mid u k0 q0 f all b.3)

  skips_take : (s t : S) → Skips view at s t → Takes view at (spaces (view s).rest) (after_space (view s).rest) s t
  skips_take s t e = record { is = e; same = front_after is_whitespace (view s).rest }

  -- a separator and the white space after it are taken
  opens_take : (sep : ℕ) (s b : S) → Opens view at sep s b → (left : Text) × ((view s).rest ≡ sep ∷ left) × Takes view at (sep ∷ spaces left) (after_space left) s b
  opens_take sep s b o =
      let f = begins_the sep (view s).rest o.begins_so in
      let k = takes_next view at view_at at_view at_at s o.mid sep f.0 f.1 o.taken in
      let v : view o.mid ≡ after_taken (view s) (sep ∷ []) f.0 = seen_after view at view_at at_at s o.mid (sep ∷ []) f.0 k in
      let w = subst (λ z. Takes view at (spaces z) (after_space z) o.mid b) (ap (λ z. z.rest) v) (skips_take o.mid b o.skips) in
      (f.0, f.1, takes_more view at view_at at_at s o.mid b (sep ∷ []) f.0 (spaces f.0) (after_space f.0) k w)

  runs_out_insisted : (s t : S) (fault last : ParseFault A) (u : S) → RunsOut view at s fault t → Insisted view at fault t last u → RunsOut view at s last u
  runs_out_insisted s t fault last u k i = record { because = ap fault_of i.cause ∙ k.because; committed = i.committed; fine = k.fine; place = rw i.place (subst (λ z. IsAt fault.pos.line fault.pos.column (view z).passed) (sym (i.already k.committed)) k.place); left = subst (λ z. SameStream view at true s z) (sym (i.already k.committed)) k.left }

  commits_insisted : (c : Fault) (upto : Text) (s t : S) (fault last : ParseFault A) (u : S) → Commits view at c upto s fault t → Insisted view at fault t last u → Commits view at c upto s last u
  commits_insisted c upto s t fault last u k i = record {
    because = ap fault_of i.cause ∙ k.because;
    committed = i.committed;
    place = rw i.place k.place;
    left = subst (λ z. SameStream view at true s z) (sym (i.already k.committed)) k.left;
  }

  passes_insisted : (c : Fault) (s t : S) (fault last : ParseFault A) (u : S) → Passes view at c s fault t → Insisted view at fault t last u → Commits view at c [] s last u
  passes_insisted c s t fault last u k i = record {
    because = ap fault_of i.cause ∙ k.because;
    committed = i.committed;
    place = rw (i.place, append-nil) k.place;
    left = record { seen = after_failure (view s); is = i.failing k.committed ∙ ap (λ z. at z (after_failure (view z))) k.left; fails = refl; same = refl };
  }

  -- an error of an item after a separator
  refused_after : (sep : ℕ) (s b t u : S) (fault last : ParseFault A) → Opens view at sep s b → Each {A = A} view at see R b (Err fault) t → Insisted view at fault t last u → Whole {A = A} view at see (TailAt R sep) s (Err last) u
  refused_after sep s b t u fault last o (inl st) i =
      let k = opens_take sep s b o in
      inl (runs_out_in_rest view at view_at at_at s b u (sep ∷ spaces k.0) (after_space k.0) last k.2 (runs_out_insisted b t fault last u st i))
  refused_after sep s b t u fault last o (inr (inl m)) i =
      let k = opens_take sep s b o in
      let v : (view b).rest ≡ after_space k.0 = ap (λ z. z.rest) (seen_after view at view_at at_at s b (sep ∷ spaces k.0) (after_space k.0) k.2) in
      inr (
        m.0,
        sep ∷ spaces k.0,
        none_follows (view s).rest k.0 m.0 k.1 (subst (λ z. R z (Missing m.0)) v m.1),
        subst (λ z. Commits view at m.0 z s last u) (append-nil (sep ∷ spaces k.0)) (commits_after view at view_at at_at m.0 [] s b u (sep ∷ spaces k.0) (after_space k.0) last k.2 (passes_insisted m.0 b t fault last u m.2 i)),
      )
  refused_after sep s b t u fault last o (inr (inr d)) i =
      let k = opens_take sep s b o in
      let v : (view b).rest ≡ after_space k.0 = ap (λ z. z.rest) (seen_after view at view_at at_at s b (sep ∷ spaces k.0) (after_space k.0) k.2) in
      inr (
        d.0,
        (sep ∷ spaces k.0) ++ d.1,
        bad_after (view s).rest k.0 d.0 d.1 k.1 (subst (λ z. R z (Bad d.0 d.1)) v d.2),
        commits_after view at view_at at_at d.0 d.1 s b u (sep ∷ spaces k.0) (after_space k.0) last k.2 (commits_insisted d.0 d.1 b t fault last u d.3 i),
      )

  module _ (each : (f : F) (s : S) (r : Result X (ParseFault A)) (g : F) (t : S) → (view s).failed ≡ false → calls f s r g t → Each {A = A} view at see R s r t) where
    tail_met : (sep : ℕ) (f : F) (s : S) (r : Result (List X) (ParseFault A)) (u : S) → (view s).failed ≡ false → Tail view at calls sep f s r u → Whole {A = A} view at see (TailAt R sep) s r u
    tail_met sep _ _ _ _ n (none f s stops) = ([], (view s).rest, ended (view s).rest stops, takes_none view at view_at at_at at_view s)
    tail_met sep _ _ _ _ n (insisted f s b fault last g t u opens called must) =
        let k = opens_take sep s b opens in
        let m : (view b).failed ≡ false = ap (λ v. v.failed) (seen_after view at view_at at_at s b (sep ∷ spaces k.0) (after_space k.0) k.2) ∙ n in
        refused_after sep s b t u fault last opens (each f b (Err fault) g t m called) must
    tail_met sep _ _ _ _ n (no_more_room f s b x g t fault u opens called runs_out) =
        let k = opens_take sep s b opens in
        let m : (view b).failed ≡ false = ap (λ v. v.failed) (seen_after view at view_at at_at s b (sep ∷ spaces k.0) (after_space k.0) k.2) ∙ n in
        let e = each f b (Ok x) g t m called in
        inl (runs_out_in_rest view at view_at at_at s b u (sep ∷ spaces k.0) (after_space k.0) fault k.2 (runs_out_after view at view_at at_at b t u e.0 e.1 fault m e.3 runs_out))
    tail_met sep _ _ _ _ n (next f s b x g t d r q u opens called skips later same) =
        let k = opens_take sep s b opens in
        let vb = seen_after view at view_at at_at s b (sep ∷ spaces k.0) (after_space k.0) k.2 in
        let m : (view b).failed ≡ false = ap (λ v. v.failed) vb ∙ n in
        let e = settled view at view_at at_view at_at calls see R b t x (each f b (Ok x) g t m called) in
        let w = takes_more view at view_at at_at s b t (sep ∷ spaces k.0) (after_space k.0) e.0 (view t).rest k.2 e.2 in
        let all = takes_more view at view_at at_at s t d ((sep ∷ spaces k.0) ++ e.0) (view t).rest (spaces (view t).rest) (after_space (view t).rest) w (skips_take t d skips) in
        let vd : view d ≡ after_taken (view s) (((sep ∷ spaces k.0) ++ e.0) ++ spaces (view t).rest) (after_space (view t).rest) = seen_after view at view_at at_at s d _ _ all in
        let there = subst (λ z. R z (Read (see x) e.0 (view t).rest)) (ap (λ v. v.rest) vb) e.1 in
        subst (λ z. Whole {A = A} view at see (TailAt R sep) s z u) (sym same)
        (joined_by (TailAt R sep) (TailAt R sep) s d u x (((sep ∷ spaces k.0) ++ e.0) ++ spaces (view t).rest) (after_space (view t).rest) r all
        (λ o z p h. one_after (view s).rest k.0 (see x) e.0 (view t).rest o z k.1 there (subst (λ y. TailAt R sep y o) (ap (λ v. v.rest) vd) p) h)
        (tail_met sep g d r u (ap (λ v. v.failed) vd ∙ n) later))

    first_refused : (sep : ℕ) (s t : S) (fault : ParseFault A) → Each {A = A} view at see R s (Err fault) t → fault.committed ≡ true → Whole {A = A} view at see (SeparatedAt R sep) s (Err fault) t
    first_refused sep s t fault (inl st) c = inl st
    first_refused sep s t fault (inr (inl m)) c = absurd (let h : true ≡ false = sym c ∙ m.2.committed in cc)
    first_refused sep s t fault (inr (inr d)) c = inr (d.0, d.1, bad_first (view s).rest d.0 d.1 d.2, d.3)

    none_read : (sep : ℕ) (s t : S) (fault : ParseFault A) → Each {A = A} view at see R s (Err fault) t → fault.committed ≡ false → Whole {A = A} view at see (SeparatedAt R sep) s (Ok []) t
    none_read sep s t fault (inl st) c = absurd (let h : true ≡ false = sym st.committed ∙ c in cc)
    none_read sep s t fault (inr (inl m)) c = ([], (view s).rest, none_first (view s).rest m.0 m.1, subst (λ z. Takes view at [] (view s).rest s z) (sym m.2.left) (takes_none view at view_at at_at at_view s))
    none_read sep s t fault (inr (inr d)) c = absurd (let h : true ≡ false = sym d.3.committed ∙ c in cc)

    -- a list with a separator, on a stream that has not failed, returns what the relation of lists says of the text
    pub separated_met : (sep : ℕ) (f : F) (s : S) (r : Result (List X) (ParseFault A)) (u : S) → (view s).failed ≡ false → Separated view at calls sep f s r u → Whole {A = A} view at see (SeparatedAt R sep) s r u
    separated_met sep _ _ _ _ n (no_item f s fault g t called free) = none_read sep s t fault (each f s (Err fault) g t n called) free
    separated_met sep _ _ _ _ n (bad_item f s fault g t called shut) = first_refused sep s t fault (each f s (Err fault) g t n called) shut
    separated_met sep _ _ _ _ n (no_first_room f s x g t fault u called runs_out) =
        let e = each f s (Ok x) g t n called in inl (runs_out_after view at view_at at_at s t u e.0 e.1 fault n e.3 runs_out)
    separated_met sep _ _ _ _ n (an_item f s x g t b q u called skips later) =
        let e = settled view at view_at at_view at_at calls see R s t x (each f s (Ok x) g t n called) in
        let all = takes_more view at view_at at_at s t b e.0 (view t).rest (spaces (view t).rest) (after_space (view t).rest) e.2 (skips_take t b skips) in
        let vb : view b ≡ after_taken (view s) (e.0 ++ spaces (view t).rest) (after_space (view t).rest) = seen_after view at view_at at_at s b _ _ all in
        subst (λ z. Whole {A = A} view at see (SeparatedAt R sep) s z u) (sym later.2)
        (joined_by (TailAt R sep) (SeparatedAt R sep) s b u x (e.0 ++ spaces (view t).rest) (after_space (view t).rest) later.0 all
        (λ o z p h. one_first (view s).rest (see x) e.0 (view t).rest o z e.1 (subst (λ y. TailAt R sep y o) (ap (λ v. v.rest) vb) p) h)
        (tail_met sep g b later.0 u (ap (λ v. v.failed) vb ∙ n) later.1))
