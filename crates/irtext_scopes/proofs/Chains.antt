-- Heads and links agree with the bindings: one more binding, the last one taken away, one rebound.
use Rattle.std.proofs.Common.{◌≡◌, ◌+◌, ◌-◌, ℕ, zero, suc, ◌<◌, ◌≤◌, Bool, true, false, cond, List, [], ◌∷◌, ◌++◌, reverse, length, take, drop, set, length-set, length-append, Option, Some, None, nat_eq, nat_le, nat_lt, ltb-true, ltb-false, refl, sym, ap, ◌∙◌, subst, arith, eq-eqb, eqb-true, leb-true, le-leb, ⊎_elim}
use Rattle.std.proofs.lemmas.List.{reverse-append, length-take-le, length-drop, take_all, drop_all}
use Rattle.std.specs.List.{slice_get}
use Rattle.std.specs.Option.{option_or, option_map}
use Rattle.irtext_scopes.specs.declared.scopes.Binding.{Binding}
use Rattle.irtext_scopes.specs.Scopes.{find, innermost, in_innermost, is_open, mentioned, resolved, names_held}
use Rattle.irtext_scopes.specs.Bindings.{entries_of, scopes_from, scopes_at, newest, head_at, first, from_mark, place_in, falls, are_apart, are_maps, rebound, Chained, IsSound}
use Rattle.irtext_interner.proofs.Lists.{get_within, get_or_there, get_snoc, take_snoc, take_whole, drop_snoc, get_last, get_front, set_there}
use Rattle.irtext_scopes.proofs.Maps.{innermost_apart, maps_tail, mentioned_maps, resolved_maps, held_begun, held_mentioned, held_resolved}
use Rattle.irtext_scopes.proofs.Newest.{newest_there, innermost_at, find_absent, find_hidden, find_there, rebound_scopes}

-- ---- marks
fall_first : (high m : ℕ) (ms : List ℕ) → falls high (m ∷ ms) ≡ true → (m ≤ high) × (falls m ms ≡ true)
fall_first high m ms h = go (nat_le m high) refl h
  where
    go : (c : Bool) → nat_le m high ≡ c → cond c (falls m ms) false ≡ true → (m ≤ high) × (falls m ms ≡ true)
    go true e k = (leb-true m high e, k)
    go false e k = cc

fall_higher : (low high : ℕ) (ms : List ℕ) → low ≤ high → falls low ms ≡ true → falls high ms ≡ true
fall_higher low high [] k h = refl
fall_higher low high (m ∷ ms) k h = let j = fall_first low m ms h in ap (λ c. cond c (falls m ms) false) (le-leb m high (let l = j.0 in omega arith)) ∙ j.1

in_range : (heads : List (Option ℕ)) (n i : ℕ) → head_at heads n ≡ Some i → n < length heads
in_range [] n i e = cc
in_range (h ∷ heads) zero i e = omega arith
in_range (h ∷ heads) (suc n) i e = let k = in_range heads n i e in omega arith

module _ {V : Type 0} where
  -- ---- one more binding
  newest_snoc : (n : ℕ) (bs : List (Binding V)) (b : Binding V) → newest n (bs ++ b ∷ []) ≡ cond (nat_eq b.name n) (Some (length bs)) (newest n bs)
  newest_snoc n [] b = refl
  newest_snoc n (k ∷ bs) b = ap (λ o. option_or (option_map suc o) (cond (nat_eq k.name n) (Some 0) None)) (newest_snoc n bs b) ∙ go (nat_eq b.name n)
    where
      go : (c : Bool) → option_or (option_map suc (cond c (Some (length bs)) (newest n bs))) (cond (nat_eq k.name n) (Some 0) None)
          ≡ cond c (Some (length (k ∷ bs))) (option_or (option_map suc (newest n bs)) (cond (nat_eq k.name n) (Some 0) None))
      go true = refl
      go false = refl

  entries_snoc : (bs : List (Binding V)) (b : Binding V) → entries_of (bs ++ b ∷ []) ≡ entries_of bs ++ (b.name, b.entry) ∷ []
  entries_snoc [] b = refl
  entries_snoc (k ∷ bs) b = ap (λ z. (k.name, k.entry) ∷ z) (entries_snoc bs b)

  length_entries : (bs : List (Binding V)) → length (entries_of bs) ≡ length bs
  length_entries [] = refl
  length_entries (b ∷ bs) = ap suc (length_entries bs)

  added_chained : (heads heads' : List (Option ℕ)) (bs : List (Binding V)) (b : Binding V) → Chained heads bs → b.hidden ≡ head_at heads b.name
      → ((n : ℕ) → head_at heads' n ≡ cond (nat_eq b.name n) (Some (length bs)) (head_at heads n)) → Chained heads' (bs ++ b ∷ [])
  added_chained heads heads' bs b c hid put = record {
    heads_lead = λ n. put n ∙ (ap (cond (nat_eq b.name n) (Some (length bs))) (c.heads_lead n) ∙ sym (newest_snoc n bs b));
    links_lead = λ i x e. ⊎_elim
        (λ h. let j = h.1 in c.links_lead i x h.0 ∙ ap (newest x.name) (sym (take_snoc bs b i (omega arith))))
        (λ h. sym (ap (λ z. z.hidden) h.1) ∙ (hid ∙ (c.heads_lead b.name ∙ (ap (λ z. newest z.name bs) h.1 ∙ ap (newest x.name) (sym (ap (λ k. take k (bs ++ b ∷ [])) h.0 ∙ take_whole bs b))))))
        (get_snoc bs b i x e);
  }

  added_from : (ms : List ℕ) (bs : List (Binding V)) (b : Binding V) → falls (length bs) ms ≡ true → scopes_from ms (bs ++ b ∷ []) ≡ in_innermost (mentioned b.name b.entry) (scopes_from ms bs)
  added_from [] bs b h = refl
  added_from (m ∷ ms) bs b h =
      let k = (fall_first (length bs) m ms h).0 in
      λ i. (ap entries_of (drop_snoc bs b m k) ∙ entries_snoc (drop m bs) b) i ∷ scopes_from ms (take_snoc bs b m k i)

  pub added_scopes : (heads : List (Option ℕ)) (marks : List ℕ) (bs : List (Binding V)) (b : Binding V) → IsSound heads bs marks
      → scopes_at marks (bs ++ b ∷ []) ≡ in_innermost (mentioned b.name b.entry) (scopes_at marks bs)
  added_scopes heads marks bs b s = added_from (reverse marks) bs b s.marks_fall

  pub added_sound : (heads heads' : List (Option ℕ)) (marks : List ℕ) (bs : List (Binding V)) (b : Binding V) → IsSound heads bs marks → b.hidden ≡ head_at heads b.name
      → ((n : ℕ) → head_at heads' n ≡ cond (nat_eq b.name n) (Some (length bs)) (head_at heads n)) → is_open (scopes_at marks bs) ≡ true → find b.name (innermost (scopes_at marks bs)) ≡ None → IsSound heads' (bs ++ b ∷ []) marks
  added_sound heads heads' marks bs b s hid put opened none = record {
    chained = added_chained heads heads' bs b s.chained hid put;
    marks_fall = fall_higher (length bs) (length (bs ++ b ∷ [])) (reverse marks) (let k = length-append bs (b ∷ []) in omega arith) s.marks_fall;
    maps = ap are_maps (added_scopes heads marks bs b s) ∙ mentioned_maps b.name b.entry (scopes_at marks bs) s.maps none;
    counted =
        let k = length-append bs (b ∷ []) in
        let held = ap names_held (added_scopes heads marks bs b s) ∙ held_mentioned b.name b.entry (scopes_at marks bs) opened in
        let counted = s.counted in
        omega arith;
  }

  -- ---- the last binding removed
  pub taken_chained : (heads heads' : List (Option ℕ)) (bs : List (Binding V)) (b : Binding V) → Chained heads (bs ++ b ∷ [])
      → ((n : ℕ) → head_at heads' n ≡ cond (nat_eq b.name n) b.hidden (head_at heads n)) → Chained heads' bs
  taken_chained heads heads' bs b c put = record {
    heads_lead = λ n. put n ∙ (ap (cond (nat_eq b.name n) b.hidden) (c.heads_lead n ∙ newest_snoc n bs b) ∙ go n (nat_eq b.name n) refl);
    links_lead = λ i x e. let j = get_within bs i x e in c.links_lead i x (get_front bs b x i e) ∙ ap (newest x.name) (take_snoc bs b i (omega arith));
  }
    where
      hid : b.hidden ≡ newest b.name bs
      hid = c.links_lead (length bs) b (get_last bs b) ∙ ap (newest b.name) (take_whole bs b)

      go : (n : ℕ) (d : Bool) → nat_eq b.name n ≡ d → cond d b.hidden (cond d (Some (length bs)) (newest n bs)) ≡ newest n bs
      go n true e = hid ∙ ap (λ z. newest z bs) (eqb-true b.name n e)
      go n false e = refl

  pub last_in_range : (heads : List (Option ℕ)) (bs : List (Binding V)) (b : Binding V) → Chained heads (bs ++ b ∷ []) → b.name < length heads
  last_in_range heads bs b c =
      in_range heads b.name (length bs) (c.heads_lead b.name ∙ (newest_snoc b.name bs b ∙ ap (λ d. cond d (Some (length bs)) (newest b.name bs)) (eq-eqb b.name b.name refl)))

  -- ---- heads that are longer
  pub longer_sound : (heads heads' : List (Option ℕ)) (marks : List ℕ) (bs : List (Binding V)) → ((n : ℕ) → head_at heads' n ≡ head_at heads n) → IsSound heads bs marks → IsSound heads' bs marks
  longer_sound heads heads' marks bs same s = record {
    chained = record { heads_lead = λ n. same n ∙ s.chained.heads_lead n; links_lead = s.chained.links_lead };
    marks_fall = s.marks_fall;
    maps = s.maps;
    counted = s.counted;
  }

  -- ---- a scope begins, and ends
  pub begun_scopes : (marks : List ℕ) (bs : List (Binding V)) → scopes_at (marks ++ length bs ∷ []) bs ≡ [] ∷ scopes_at marks bs
  begun_scopes marks bs =
      ap (λ ms. scopes_from ms bs) (reverse-append marks (length bs ∷ []))
      ∙ (λ i. entries_of (drop_all (length bs) bs (omega arith) i) ∷ scopes_from (reverse marks) (take_all (length bs) bs (omega arith) i))

  pub begun_sound : (heads : List (Option ℕ)) (marks : List ℕ) (bs : List (Binding V)) → IsSound heads bs marks → IsSound heads bs (marks ++ length bs ∷ [])
  begun_sound heads marks bs s = record {
    chained = s.chained;
    marks_fall =
        ap (falls (length bs)) (reverse-append marks (length bs ∷ []))
        ∙ (ap (λ c. cond c (falls (length bs) (reverse marks)) false) (le-leb (length bs) (length bs) (omega arith)) ∙ s.marks_fall);
    maps = ap are_maps (begun_scopes marks bs) ∙ s.maps;
    counted = s.counted ∙ (held_begun (scopes_at marks bs) ∙ sym (ap names_held (begun_scopes marks bs)));
  }

  -- the scope that begins at the last mark, and those around it
  pub ended_scopes : (old marks : List ℕ) (m : ℕ) (bs : List (Binding V)) → old ≡ marks ++ m ∷ [] → scopes_at old bs ≡ entries_of (drop m bs) ∷ scopes_at marks (take m bs)
  ended_scopes old marks m bs e = ap (λ ms. scopes_from ms bs) (ap reverse e ∙ reverse-append marks (m ∷ []))

  last_falls : (heads : List (Option ℕ)) (old marks : List ℕ) (m : ℕ) (bs : List (Binding V)) → IsSound heads bs old → old ≡ marks ++ m ∷ [] → (m ≤ length bs) × (falls m (reverse marks) ≡ true)
  last_falls heads old marks m bs s e = fall_first (length bs) m (reverse marks) (sym (ap (falls (length bs)) (ap reverse e ∙ reverse-append marks (m ∷ []))) ∙ s.marks_fall)

  pub last_within : (heads : List (Option ℕ)) (old marks : List ℕ) (m : ℕ) (bs : List (Binding V)) → IsSound heads bs old → old ≡ marks ++ m ∷ [] → m ≤ length bs
  last_within heads old marks m bs s e = (last_falls heads old marks m bs s e).0

  pub ended_sound : (heads heads' : List (Option ℕ)) (old marks : List ℕ) (m : ℕ) (bs cs : List (Binding V)) → IsSound heads bs old → old ≡ marks ++ m ∷ [] → cs ≡ take m bs → Chained heads' cs → IsSound heads' cs marks
  ended_sound heads heads' old marks m bs cs s e k c =
      let f = last_falls heads old marks m bs s e in
      record {
        chained = c;
        marks_fall = ap (λ (z : List (Binding V)). falls (length z) (reverse marks)) k ∙ (ap (λ n. falls n (reverse marks)) (length-take-le m bs f.0) ∙ f.1);
        maps = ap (λ z. are_maps (scopes_at marks z)) k ∙ maps_tail (entries_of (drop m bs)) (scopes_at marks (take m bs)) (sym (ap are_maps (ended_scopes old marks m bs e)) ∙ s.maps);
        counted =
            let all : length bs ≡ length (entries_of (drop m bs)) + names_held (scopes_at marks (take m bs)) = s.counted ∙ ap names_held (ended_scopes old marks m bs e) in
            let inner : length (entries_of (drop m bs)) ≡ length bs - m = length_entries (drop m bs) ∙ length-drop m bs in
            let outer : length (take m bs) ≡ m = length-take-le m bs f.0 in
            let within = f.0 in
            let left : length (take m bs) ≡ names_held (scopes_at marks (take m bs)) = omega arith in
            subst (λ (z : List (Binding V)). length z ≡ names_held (scopes_at marks z)) (sym k) left;
      }

  pub closed_scopes : (marks : List ℕ) (bs : List (Binding V)) → first (reverse marks) ≡ None → scopes_at marks bs ≡ []
  closed_scopes marks bs e = go (reverse marks) e
    where
      go : (ms : List ℕ) → first ms ≡ None → scopes_from ms bs ≡ []
      go [] h = refl
      go (m ∷ ms) h = cc

  -- no name occurs twice in the innermost scope
  pub mark_apart : (heads : List (Option ℕ)) (marks : List ℕ) (bs : List (Binding V)) (m : ℕ) → IsSound heads bs marks → first (reverse marks) ≡ Some m → are_apart (entries_of (drop m bs)) ≡ true
  mark_apart heads marks bs m s e = sym (ap are_apart (innermost_at (reverse marks) bs m e)) ∙ innermost_apart (scopes_at marks bs) s.maps

  -- ---- where the innermost scope binds a name
  pub record Found (n : ℕ) (marks : List ℕ) (bs : List (Binding V)) (i : ℕ) : Type 0 where
    pub mark : ℕ
    pub binding : Binding V
    pub begins : first (reverse marks) ≡ Some mark
    pub newest_is : newest n bs ≡ Some i
    pub inside : mark ≤ i
    pub there : slice_get bs i ≡ Some binding
    pub means : find n (innermost (scopes_at marks bs)) ≡ Some binding.entry

  abbrev pub ResolvesTo : ℕ → List ℕ → List (Binding V) → Option ℕ → Type 0
  ResolvesTo n marks bs None = find n (innermost (scopes_at marks bs)) ≡ None
  ResolvesTo n marks bs (Some i) = Found n marks bs i

  pub place_resolves : (heads : List (Option ℕ)) (marks : List ℕ) (bs : List (Binding V)) (n : ℕ) (o : Option ℕ)
      → IsSound heads bs marks → o ≡ place_in heads marks n → ResolvesTo n marks bs o
  place_resolves heads marks bs n o s q =
      subst (ResolvesTo n marks bs) (sym (q ∙ ap (from_mark (first (reverse marks))) (s.chained.heads_lead n)))
      (resolves_to (first (reverse marks)) refl (newest n bs) refl)
    where
      here : (m i : ℕ) → first (reverse marks) ≡ Some m → newest n bs ≡ Some i → (c : Bool) → nat_lt i m ≡ c → ResolvesTo n marks bs (cond c None (Some i))
      here m i e h true l = sym (find_hidden (reverse marks) bs n m i e (mark_apart heads marks bs m s e) h (ltb-true i m l))
      here m i e h false l =
          let b = newest_there n i bs h in
          let low = ltb-false i m l in
          record {
            mark = m;
            binding = b.0;
            begins = e;
            newest_is = h;
            inside = low;
            there = b.1;
            means = sym (find_there (reverse marks) bs n m i b.0 e (mark_apart heads marks bs m s e) h low (sym (get_or_there bs i b.0 b.0 b.1)));
          }

      resolves_to : (f : Option ℕ) → first (reverse marks) ≡ f → (w : Option ℕ) → newest n bs ≡ w → ResolvesTo n marks bs (from_mark f w)
      resolves_to None e w h = ap (λ ss. find n (innermost ss)) (closed_scopes marks bs e)
      resolves_to (Some m) e None h = sym (find_absent (reverse marks) bs n m e (mark_apart heads marks bs m s e) h)
      resolves_to (Some m) e (Some i) h = here m i e h (nat_lt i m) refl

  -- ---- names and links alone decide what is newest
  abbrev names_of : List (Binding V) → List ℕ
  names_of [] = []
  names_of (b ∷ bs) = b.name ∷ names_of bs

  newest_named : (n : ℕ) (bs cs : List (Binding V)) → names_of bs ≡ names_of cs → newest n bs ≡ newest n cs
  newest_named n [] [] h = refl
  newest_named n [] (c ∷ cs) h = cc
  newest_named n (b ∷ bs) [] h = cc
  newest_named n (b ∷ bs) (c ∷ cs) h =
      let k : b.name ≡ c.name = cc in
      let l : names_of bs ≡ names_of cs = cc in
      λ i. option_or (option_map suc (newest_named n bs cs l i)) (cond (nat_eq (k i) n) (Some 0) None)

  names_take : (k : ℕ) (bs : List (Binding V)) → names_of (take k bs) ≡ take k (names_of bs)
  names_take zero bs = refl
  names_take (suc k) [] = refl
  names_take (suc k) (b ∷ bs) = ap (λ z. b.name ∷ z) (names_take k bs)

  names_rebound : (bs : List (Binding V)) (i : ℕ) (b : Binding V) (v : V) → slice_get bs i ≡ Some b → names_of (set bs i (rebound v b)) ≡ names_of bs
  names_rebound [] i b v e = refl
  names_rebound (k ∷ bs) zero b v e = let is : k ≡ b = cc in ap (λ z. z.name ∷ names_of bs) (sym is)
  names_rebound (k ∷ bs) (suc i) b v e = ap (λ z. k.name ∷ z) (names_rebound bs i b v e)

  rebound_chained : (heads : List (Option ℕ)) (bs : List (Binding V)) (i : ℕ) (b : Binding V) (v : V) → Chained heads bs → slice_get bs i ≡ Some b → Chained heads (set bs i (rebound v b))
  rebound_chained heads bs i b v c e = record {
    heads_lead = λ n. c.heads_lead n ∙ newest_named n bs (set bs i (rebound v b)) (sym (names_rebound bs i b v e));
    links_lead = λ j y h. ⊎_elim
        (λ k. c.links_lead j y k ∙ still j y.name)
        (λ k. sym (ap (λ z. z.hidden) k.1) ∙ (c.links_lead i b e ∙ (still i b.name ∙ (λ q. newest ((ap (λ z. z.name) k.1) q) (take (k.0 q) (set bs i (rebound v b)))))))
        (set_there bs i j b (rebound v b) y e h);
  }
    where
      still : (j n : ℕ) → newest n (take j bs) ≡ newest n (take j (set bs i (rebound v b)))
      still j n = newest_named n (take j bs) (take j (set bs i (rebound v b))) (names_take j bs ∙ (ap (take j) (sym (names_rebound bs i b v e)) ∙ sym (names_take j (set bs i (rebound v b)))))

  pub resolved_scopes : (heads : List (Option ℕ)) (marks : List ℕ) (bs : List (Binding V)) (n i : ℕ) (v : V)
      → IsSound heads bs marks → (f : Found n marks bs i) → scopes_at marks (set bs i (rebound v f.binding)) ≡ in_innermost (resolved n v) (scopes_at marks bs)
  resolved_scopes heads marks bs n i v s f =
      rebound_scopes (reverse marks) bs n f.mark i v f.binding f.begins (mark_apart heads marks bs f.mark s f.begins) f.newest_is f.inside f.there

  pub resolved_sound : (heads : List (Option ℕ)) (marks : List ℕ) (bs cs : List (Binding V)) (n i : ℕ) (v : V)
      → IsSound heads bs marks → (f : Found n marks bs i) → cs ≡ set bs i (rebound v f.binding) → IsSound heads cs marks
  resolved_sound heads marks bs cs n i v s f is = subst (λ z. IsSound heads z marks) (sym is) (record {
    chained = rebound_chained heads bs i f.binding v s.chained f.there;
    marks_fall = ap (λ z. falls z (reverse marks)) (length-set bs i (rebound v f.binding)) ∙ s.marks_fall;
    maps = ap are_maps (resolved_scopes heads marks bs n i v s f) ∙ resolved_maps n v (scopes_at marks bs) s.maps;
    counted =
        length-set bs i (rebound v f.binding)
        ∙ (s.counted ∙ sym (ap names_held (resolved_scopes heads marks bs n i v s f) ∙ held_resolved n v (scopes_at marks bs)));
  })
