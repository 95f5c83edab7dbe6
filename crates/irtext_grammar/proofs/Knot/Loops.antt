-- A loop over items parses them as the grammar parses a row of them, and does what each does in their order.
use Rattle.std.proofs.Common.{◌≡◌, ◌∙◌, ℕ, zero, suc, ◌≤◌, Bool, true, false, cond, List, [], ◌∷◌, map, length, refl, sym, ap, arith, true≢false}
use Rattle.std.specs.Prelude.{⊤}
use Rattle.std.specs.Char.{is_whitespace}
use Rattle.irtext_base.specs.Text.{Text, begins, after_space}
use Rattle.irtext_base.specs.Reading.{Reading, ◌▹◌, the, literal, more, repeated}
use Rattle.irtext_base.specs.Answers.{Outcome, Read, Missing, Bad}
use Rattle.irtext_base.proofs.Characters.{after_twice}
use Rattle.irtext_grammar.specs.Readers.Parts.{without_first}
use Rattle.irtext_grammar.proofs.Locations.RestLengths.{space_bound}
use Rattle.irtext_grammar.specs.Reached.{Reached, Advanced, Stopped, came, tells, Reads, each_of}
use Rattle.irtext_grammar.proofs.Knot.Alike.{Shrink, IsLoop}
use Rattle.irtext_grammar.proofs.Knot.Bound.{after_semicolon}

-- ---- parses put together
module _ {X Y S : Type 0} where
  -- what follows a value that was parsed
  pub tells_found : (o : Outcome X) (text : Text) (s : S) (next : X → Text → Reached Y S) (x : X) (taken rest : Text) → o ≡ Read x taken rest → tells o text s next ≡ next x rest
  tells_found o text s next x taken rest e = ap (λ o. tells o text s next) e

  -- what follows a parse that came to an end
  pub came_found : (o : Reached X S) (next : X → S → Text → Reached Y S) (x : X) (s : S) (rest : Text) → o ≡ Advanced x s rest → came o next ≡ next x s rest
  came_found o next x s rest e = ap (λ o. came o next) e

  -- the value that was parsed, if the parse went on and came to an end
  pub tells_read : (o : Outcome X) (text : Text) (s : S) (next : X → Text → Reached Y S) (y : Y) (t : S) (rest : Text) → tells o text s next ≡ Advanced y t rest
      → (x : X) × (taken : Text) × (mid : Text) × (o ≡ Read x taken mid) × (next x mid ≡ Advanced y t rest)
  tells_read (Read x taken mid) text s next y t rest e = (x, taken, mid, refl, e)
  tells_read (Missing cause) text s next y t rest e = absurd (cc e)
  tells_read (Bad cause upto) text s next y t rest e = absurd (cc e)

  -- the result of the first parse, if the parse went on after it and came to an end
  pub came_read : (o : Reached X S) (next : X → S → Text → Reached Y S) (y : Y) (t : S) (rest : Text) → came o next ≡ Advanced y t rest
      → (x : X) × (u : S) × (mid : Text) × (o ≡ Advanced x u mid) × (next x u mid ≡ Advanced y t rest)
  came_read (Advanced x u mid) next y t rest e = (x, u, mid, refl, e)
  came_read (Stopped s cause place) next y t rest e = absurd (cc e)

-- ---- what is to be parsed
-- what a reading of the grammar parses, the parser parses, with this action; and each such text begins as required
pub record Finds {S : Type 0} (Begins : Text → Type 0) (item : Reads S) (reading : Reading) (act : S → S) : Type 0 where
  pub begins : (text rest : Text) → reading text rest → Begins text
  pub found : (text rest : Text) (s : S) → reading text rest → item text s ≡ Advanced tt (act s) rest

-- the same of a row
abbrev pub AllFind : {S : Type 0} → (Text → Type 0) → Reads S → List Reading → List (S → S) → Type 0
AllFind Begins item [] [] = ⊤
AllFind Begins item (r ∷ rs) (a ∷ fs) = Finds Begins item r a × AllFind Begins item rs fs
AllFind Begins item _ _ = ⊥

-- the text begins with a character that passes the test
abbrev pub BeginsWith : (ℕ → Bool) → Text → Type 0
BeginsWith test text = begins test text ≡ true

module _ {S : Type 0} {test : ℕ → Bool} {item : Reads S} {loop : ℕ → Reads S} (i : IsLoop (begins test) item loop) (shrink : (b : ℕ) → Shrink b item item) where
  stops : (n : ℕ) (text : Text) (s : S) → begins test text ≡ false → loop n text s ≡ Advanced tt s text
  stops zero text s e = i.none text s
  stops (suc n) text s e = rw (i.more n text s, e) refl

  -- what is left after an item that was parsed
  less : (c : ℕ) (text : Text) (s t : S) (rest : Text) → item (c ∷ text) s ≡ Advanced tt t rest → length (after_space rest) ≤ length text
  less c text s t rest e = space_bound (length text) rest (((shrink (length text)).alike (c ∷ text) s (omega arith)).leaves.by tt t rest e)

  -- A row that the grammar parses the loop parses.
  pub loop_found : (n : ℕ) (rs : List Reading) (fs : List (S → S)) (text rest : Text) (s : S) → length text ≤ n → AllFind (BeginsWith test) item rs fs
      → repeated test rs text rest → loop n text s ≡ Advanced tt (each_of fs s) rest
  loop_found n [] [] text rest s h k (e, r) = stops n text s e ∙ ap (Advanced tt s) (sym r)
  loop_found n [] (a ∷ fs) text rest s h k r = absurd k
  loop_found n (r ∷ rs) [] text rest s h k q = absurd k
  loop_found n (r ∷ rs) (a ∷ fs) [] rest s h k (m, q, z) = absurd (true≢false (sym (k.0.begins [] m q)))
  loop_found zero (r ∷ rs) (a ∷ fs) (c ∷ text) rest s h k q = absurd (omega (arith, h))
  loop_found (suc n) (r ∷ rs) (a ∷ fs) (c ∷ text) rest s h k (m, q, z) =
      let first = k.0.found (c ∷ text) m s q in
      let j = less c text s (a s) m first in
      let again = loop_found n rs fs (after_space m) rest (a s) (omega (arith, h, j)) k.1 z in
      rw (i.more n (c ∷ text) s, k.0.begins (c ∷ text) m q) (came_found (item (c ∷ text) s) (λ _ t rest. loop n (after_space rest) t) tt (a s) m first ∙ again)

-- after items that follow white space no white space is left
pub repeated_tight : (test : ℕ → Bool) (rs : List Reading) (text rest : Text) → repeated test rs (after_space text) rest → after_space rest ≡ rest
repeated_tight test [] text rest h = ap after_space h.1 ∙ (after_twice is_whitespace text ∙ sym h.1)
repeated_tight test (r ∷ rs) text rest h = repeated_tight test rs h.0 rest h.2

-- an item after its separator
abbrev pub separate : ℕ → Reading → Reading
separate sep reading = literal (sep ∷ []) ▹ reading

-- items, each after a separator, are repeated items of a separator and an item
pub more_repeated : (sep : ℕ) (rs : List Reading) (text rest : Text) → more sep rs text rest → repeated (the sep) (map (separate sep) rs) text rest
more_repeated sep [] text rest h = h
more_repeated sep (r ∷ rs) text rest (m, first, (k, q, z)) = (k, (m, first, q), more_repeated sep rs (after_space k) rest z)

-- and conversely
pub repeated_more : {X : Type 0} (sep : ℕ) (reading : X → Reading) (xs : List X) (text rest : Text)
    → repeated (the sep) (map (λ x. separate sep (reading x)) xs) text rest → more sep (map reading xs) text rest
repeated_more sep reading [] text rest h = h
repeated_more sep reading (x ∷ xs) text rest (k, (m, first, q), z) = (m, first, (k, q, repeated_more sep reading xs (after_space k) rest z))

module _ {S : Type 0} (Begins : Text → Type 0) (item : Reads S) where
  semicolon_first : (text rest : Text) → literal (59 ∷ []) text rest → text ≡ 59 ∷ rest
  semicolon_first text rest e = e

  -- items are found after a `;`
  pub after_found : (rs : List Reading) (fs : List (S → S)) → AllFind Begins item rs fs → AllFind (BeginsWith (the 59)) (after_semicolon item) (map (separate 59) rs) fs
  after_found [] [] h = tt
  after_found [] (a ∷ fs) h = absurd h
  after_found (r ∷ rs) [] h = absurd h
  after_found (r ∷ rs) (a ∷ fs) h = (
    record {
      begins = λ text rest (m, first, q). ap (begins (the 59)) (semicolon_first text m first);
      found = λ text rest s (m, first, q). ap (λ t. item (after_space (without_first t)) s) (semicolon_first text m first) ∙ h.0.found (after_space m) rest s q;
    },
    after_found rs fs h.1,
  )

-- ---- what was parsed
-- what the parser accepts is a reading of the grammar whose action on the state is the same
pub record Tells {X S : Type 0} (item : Reads S) (reading : X → Reading) (act : X → S → S) : Type 0 where
  pub read : (text : Text) (s t : S) (rest : Text) → item text s ≡ Advanced tt t rest → (x : X) × reading x text rest × (t ≡ act x s)

-- repeated items that were parsed, with their actions
pub record RowRead {X S : Type 0} (test : ℕ → Bool) (reading : X → Reading) (act : X → S → S) (text : Text) (s t : S) (rest : Text) : Type 0 where
  pub items : List X
  pub reads : repeated test (map reading items) text rest
  pub does : t ≡ each_of (map act items) s

module _ {X S : Type 0} {test : ℕ → Bool} {item : Reads S} {loop : ℕ → Reads S} (i : IsLoop (begins test) item loop) (shrink : (b : ℕ) → Shrink b item item)
    {reading : X → Reading} {act : X → S → S} (tells : (text : Text) (s t : S) (rest : Text) → begins test text ≡ true → item text s ≡ Advanced tt t rest → (x : X) × reading x text rest × (t ≡ act x s)) where
  ended : (text : Text) (s t : S) (rest : Text) → begins test text ≡ false → ◌≡◌ {A = Reached Unit S} (Advanced tt s text) (Advanced tt t rest) → RowRead test reading act text s t rest
  ended text s t rest b e = let f : s ≡ t = cc e in let g : text ≡ rest = cc e in record { items = []; reads = (b, sym g); does = sym f }

  -- What the loop parses is a row that the grammar parses.
  pub loop_read : (n : ℕ) (text : Text) (s t : S) (rest : Text) → length text ≤ n → loop n text s ≡ Advanced tt t rest → RowRead test reading act text s t rest
  loop_read zero [] s t rest h e = ended [] s t rest refl (sym (i.none [] s) ∙ e)
  loop_read zero (c ∷ text) s t rest h e = absurd (omega (arith, h))
  loop_read (suc n) text s t rest h e = go (begins test text) refl (loop_read n) (sym (i.more n text s) ∙ e)
    where
      go : (b : Bool) → begins test text ≡ b → ((text : Text) (s t : S) (rest : Text) → length text ≤ n → loop n text s ≡ Advanced tt t rest → RowRead test reading act text s t rest)
          → cond b (came (item text s) (λ _ t rest. loop n (after_space rest) t)) (Advanced tt s text) ≡ Advanced tt t rest → RowRead test reading act text s t rest
      go false b again e = ended text s t rest b e
      go true b again e =
          let c = came_read (item text s) (λ _ t rest. loop n (after_space rest) t) tt t rest e in
          let x = tells text s c.1 c.2 b c.3 in
          let j = bounded text c.1 c.2 h b c.3 in
          let k = again (after_space c.2) c.1 t rest j c.4 in
          record { items = x.0 ∷ k.items; reads = (c.2, x.1, k.reads); does = k.does ∙ ap (each_of (map act k.items)) x.2 }
        where
          bounded : (text : Text) (u : S) (mid : Text) → length text ≤ suc n → begins test text ≡ true → item text s ≡ Advanced tt u mid → length (after_space mid) ≤ n
          bounded [] u mid h b e = absurd (true≢false (sym b))
          bounded (c ∷ text) u mid h b e = let j = less i shrink c text s u mid e in omega (arith, h, j)
