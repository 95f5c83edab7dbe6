-- One more item of a list.
use Rattle.std.proofs.Common.{◌≡◌, ℕ, ◌<◌, ◌≤◌, Bool, true, false, cond, Some, Result, Ok, Err, List, [], ◌∷◌, ◌++◌, length, refl, sym, ◌∙◌, ap, subst, append_assoc, length-append, arith}
use Rattle.std.specs.Fn.{Mut, Called}
use Rattle.std.specs.Borrow.{MutBor}
use Rattle.std.specs.Bool.{MatchBool, ◌==◌}
use Rattle.std.specs.Char.{is_whitespace}
use Rattle.std.specs.Str.{encode_utf8_all}
use Rattle.std.proofs.lemmas.Bool.Decides.{nat_tests}
use Rattle.std.proofs.lemmas.Str.{length-le-encodes}
use Rattle.irtext_base.specs.Text.{Text, begins, front, after, after_space}
use Rattle.irtext_base.specs.Reading.{the}
use Rattle.irtext_base.specs.Stream.{StreamView, first_of}
use Rattle.irtext_base.specs.Answers.{Takes, Demands}
use Rattle.irtext_base.specs.declared.parsable.fault.ParseFault.{ParseFault}
use Rattle.irtext_base.proofs.Along.{front_after, falls}
use Rattle.irtext_tokens.proofs.Spelling.{takes_none_is}
use Rattle.irtext_tokens.specs.Lists.{Calls, AlwaysKeepsRules, KeepsRules, Insisted, UnlessFailed, prepended, skipped, MovesOn, Skips, Opens}

not_zero : (n : ℕ) → 0 < n → (n == 0) ≡ false
not_zero n h = grind (arith, nat_tests)

-- a call with the references that a body passes, seen as a result
pub called_at : {F S R X A : Type 0} {seen : R → Result X (ParseFault A)} {item : Mut F (MutBor S × Unit {0}) (R × (MutBor S × Unit {0}))} {f h : F} {p q : MutBor S} {answer : R} {r : Result X (ParseFault A)} → Called item f (p, tt) (answer, (q, tt)) h → r ≡ seen answer → Calls seen item f p.now r h q.now
called_at {p} {q} {answer} k i = record { answer = answer; called = record { shown = p; shows = refl; left = q; called = k; leaves = refl }; is = sym i }

-- if every call keeps the rules, so does one whose result is seen
pub rules_at : {F S R X A : Type 0} (view : S → StreamView) (at : S → StreamView → S) {seen : R → Result X (ParseFault A)} {item : Mut F (MutBor S × Unit {0}) (R × (MutBor S × Unit {0}))} → AlwaysKeepsRules view at seen item → (f : F) (s : S) (r : Result X (ParseFault A)) (g : F) (t : S) → Calls seen item f s r g t → KeepsRules view at s r t
rules_at view at keeps f s r g t k = subst (λ z. KeepsRules view at s z t) k.is (keeps f s k.answer g t k.called)

-- what encodes to nothing is nothing
pub nothing_encoded : (taken bytes : Text) (b : Bool) → bytes ≡ encode_utf8_all taken → b ≡ (length bytes == 0) → MatchBool b (taken ≡ []) (taken ≡ [] → ⊥)
nothing_encoded [] bytes b e n = let t : b ≡ true = n ∙ ap (λ z. length z == 0) e in rw t refl
nothing_encoded (c ∷ taken) bytes b e n =
    let l : length (c ∷ taken) ≤ length (encode_utf8_all (c ∷ taken)) = length-le-encodes (c ∷ taken) in
    let k : 0 < length bytes = omega (arith, l, ap length e) in
    let t : b ≡ false = n ∙ not_zero (length bytes) k in
    rw t (λ q. cc)

-- what a test that passed says
pub passed_says : (P Q : Type 0) (b : Bool) → MatchBool b P Q → b ≡ true → P
passed_says P Q true h e = h
passed_says P Q false h e = absurd (cc)

-- what a test that failed says
pub failed_says : (P Q : Type 0) (b : Bool) → MatchBool b P Q → b ≡ false → Q
failed_says P Q true h e = absurd (cc)
failed_says P Q false h e = h

-- what holds of a committed error, and of the value in place of another, holds of the result
pub unless_error : {W A : Type 0} (G : Result W (ParseFault A) → Type 0) (fault : ParseFault A) (w : W) (r : Result W (ParseFault A)) → cond fault.committed (r ≡ Err fault) (r ≡ Ok w)
    → (fault.committed ≡ true → G (Err fault)) → (fault.committed ≡ false → G (Ok w)) → G r
unless_error {W} {A} G fault w r h bad good = go fault.committed refl h
  where
    go : (b : Bool) → fault.committed ≡ b → cond b (r ≡ Err fault) (r ≡ Ok w) → G r
    go true c e = subst G (sym e) (bad c)
    go false c e = subst G (sym e) (good c)

taken_lt : (a c r : Text) → (a ≡ [] → ⊥) → a ++ c ≡ r → length c < length r
taken_lt [] c r n h = absurd (n refl)
taken_lt (x ∷ a) c r n h = omega (arith, ap length (sym h), length-append (x ∷ a) c)

-- a text that begins with a character has a first one
begun : (c : ℕ) (text : Text) → begins (the c) text ≡ true → (d : ℕ) × (first_of text ≡ Some d)
begun c [] h = absurd (cc)
begun c (d ∷ text) h = (d, refl)

module _ {S : Type 0} (view : S → StreamView) (at : S → StreamView → S) where
  -- no character was taken
  pub none_taken : (s t : S) (h : MovesOn view at s t) → h.taken ≡ [] → (view t).rest ≡ (view s).rest
  none_taken s t h n = sym (ap (λ z. z ++ (view t).rest) n) ∙ h.same

  -- one was
  pub some_taken : (s t : S) (h : MovesOn view at s t) → (h.taken ≡ [] → ⊥) → length (view t).rest < length (view s).rest
  some_taken s t h n = taken_lt h.taken (view t).rest (view s).rest n h.same

  pub after_le : (p : ℕ → Bool) (text : Text) → length (after p text) ≤ length text
  after_le p text = omega (arith, ap length (front_after p text), length-append (front p text) (after p text))

pub prepended-more : {X E : Type 0} (xs : List X) (x : X) (r : Result (List X) E) → prepended xs (prepended (x ∷ []) r) ≡ prepended (xs ++ (x ∷ [])) r
prepended-more xs x (Ok ys) = ap Ok (sym (append_assoc xs (x ∷ []) ys))
prepended-more xs x (Err e) = refl

module _ {S : Type 0} (view : S → StreamView) (at : S → StreamView → S) (view_at : (s : S) (v : StreamView) → view (at s v) ≡ v) (at_at : (s : S) (v w : StreamView) → at (at s v) w ≡ at s w) where
  skip_le : (t u : S) → Skips view at t u → length (view u).rest ≤ length (view t).rest
  skip_le t u e =
      let r : (view u).rest ≡ after_space (view t).rest = ap (λ z. (view z).rest) e ∙ ap (λ v. v.rest) (view_at t (skipped (view t))) in
      omega (arith, ap length r, after_le view at is_whitespace (view t).rest)

  -- the rest after white space is shorter, too
  pub skipped_lt : (s t u : S) → length (view t).rest < length (view s).rest → Skips view at t u → length (view u).rest < length (view s).rest
  skipped_lt s t u a e = let k = skip_le t u e in omega (arith, a, k)

  hand_le : (b t : S) → MovesOn view at b t → length (view t).rest ≤ length (view b).rest
  hand_le b t h = omega (arith, ap length h.same, length-append h.taken (view t).rest)

  pub tail_lt : (s b t u : S) (sep : ℕ) → Opens view at sep s b → MovesOn view at b t → Skips view at t u → length (view u).rest < length (view s).rest
  tail_lt s b t u sep o h k =
      let f = begun sep (view s).rest o.begins_so in
      let i : length (view o.mid).rest < length (view s).rest = falls view at view_at at_at s o.mid f.0 (sym f.1) o.taken in
      let j = skip_le o.mid b o.skips in
      let l = hand_le b t h in
      let m = skip_le t u k in
      omega (arith, i, j, l, m)

-- before a character that doesn't pass the front is empty
front_none : (p : ℕ → Bool) (text : Text) → begins p text ≡ false → front p text ≡ []
front_none p [] e = refl
front_none p (c ∷ text) e = rw e refl

module _ {S : Type 0} (view : S → StreamView) (at : S → StreamView → S) where
  -- on a stream that has not failed the relation says what is parsed
  pub unless_met : {Y A : Type 0} (R : S → Result Y (ParseFault A) → S → Type 0) (b : Bool) (s : S) (r : Result Y (ParseFault A)) (u : S) → b ≡ false → R s r u → UnlessFailed view at R b s r u
  unless_met R true s r u e h = absurd (cc)
  unless_met R false s r u e h = h

  -- the error of a required item, committed
  pub commits_item : {A : Type 0} {t u : S} {fault last : ParseFault A} → ((s : S) → at s (view s) ≡ s) → (fault.committed ≡ true → (view t).failed ≡ true) → Demands view at fault t last u → Insisted view at fault t last u
  commits_item {t = t} at_view k d = record {
    cause = d.cause;
    place = d.place;
    committed = d.committed;
    already = λ e. d.left ∙ (ap (λ (b : Bool). at t (let v : StreamView = record { passed = (view t).passed; rest = (view t).rest; failed = b } in v)) (sym (k e)) ∙ at_view t);
    failing = λ e. d.left;
  }

  -- where the text does not begin with white space, the stream is unchanged
  pub no_space : (view_at : (s : S) (v : StreamView) → view (at s v) ≡ v) (at_view : (s : S) → at s (view s) ≡ s) (at_at : (s : S) (v w : StreamView) → at (at s v) w ≡ at s w) (s b : S) → begins is_whitespace (view s).rest ≡ false → Takes view at (front is_whitespace (view s).rest) (after_space (view s).rest) s b → b ≡ s
  no_space view_at at_view at_at s b e k = takes_none_is view at view_at at_view at_at s b (after_space (view s).rest) (subst (λ z. Takes view at z (after_space (view s).rest) s b) (front_none is_whitespace (view s).rest e) k)
