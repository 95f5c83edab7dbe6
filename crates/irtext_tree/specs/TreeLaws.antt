-- The law of the texts of trees, from the law of the texts of their heads.
use Rattle.std.proofs.Common.{◌≡◌, ℕ, zero, suc, ◌<◌, ◌≤◌, Bool, true, false, cond, List, [], ◌∷◌, ◌++◌, length, length-append, Option, Some, None, refl, sym, ◌∙◌, ap, subst, append_assoc, append-nil, arith, true≢false, codes}
use Rattle.std.specs.Prelude.{◌↔◌, ◌&&◌, IsTrue, unwrap_or}
use Rattle.std.specs.Char.{is_whitespace}
use Rattle.std.specs.Cmp.Lexicographic.{pointwise, pointwise_decides}
use Rattle.std.specs.Str.{all_scalars}
use Rattle.irtext_base.specs.Text.{Text, begins, begins_word, in_dotted, after_space, front}
use Rattle.irtext_base.specs.Reading.{keyword}
use Rattle.irtext_base.specs.Answers.{Outcome, Read, Missing, Bad}
use Rattle.irtext_base.specs.Families.{BeginsWithWord, is_one_of}
use Rattle.irtext_base.specs.Own.{Ends, Sincere, Lawful, Unreserved, texts_of, found, verdict}
use Rattle.irtext_base.proofs.Along.{front_after}
use Rattle.irtext_base.proofs.Characters.{and_left, and_right, word_tight}
use Rattle.irtext_base.proofs.Scalars.{scalars_more}
use Rattle.irtext_base.proofs.Sincere.{Of, of_here, of_read, of_followed, of_sincere, sincere_of}
use Rattle.irtext_tokens.proofs.SincereTokens.{of_space}
use Rattle.irtext_tokens.specs.Infix.{Reader, ◌▷◌}
use Rattle.irtext_tokens.specs.Tokens.{space_at}
use Rattle.irtext_syntax.specs.PartSteps.{then_found, then_missing, spaced_found}
use Rattle.irtext_tree.specs.GrammarLaws.{GrammarLaw, Follows, IfMore, SecondIs}
use Rattle.irtext_tree.specs.Growths.{Growth, waiting, fills, is_tree, leads, heads_within}
use Rattle.irtext_tree.specs.Words.{HeadsLed, HeadsUnreserved}
use Rattle.irtext_tree.specs.Trees.{grown, grown_after, heads_at, heads_text}
use Rattle.irtext_tree.specs.TreeOf.{tree_of, whole_at, tree_at, tree_text, tree_found}
use Rattle.irtext_tree.specs.declared.grammar.Grows as grows
use Rattle.irtext_tree.specs.declared.tree.Tree.{Tree}
use Rattle.irtext_tree.specs.declared.waits.Waits.{Waits}
use Rattle.irtext_tree.specs.declared.waits.Waits.TheVariants as waits

-- what is found is read
read_found : {X : Type 0} (o : Outcome X) (x : X) (left : Text) → verdict o ≡ found x left → (taken : Text) × (o ≡ Read x taken left)
read_found (Read y taken r) x left e =
    let p : (y ≡ x) × (r ≡ left) = (cc, cc) in
    (taken, rw (p.0, p.1) refl)
read_found (Missing cause) x left e = absurd (cc)
read_found (Bad cause upto) x left e = absurd (cc)

pub less_space : (text : Text) → length (after_space text) ≤ length text
less_space text = let e = ap length (front_after is_whitespace text) in let l = length-append (front is_whitespace text) (after_space text) in omega (arith, e, l)

-- what is read leaves no more than there was
pub left_less : {X : Type 0} (reading : Reader X) → Sincere reading → (text : Text) (x : X) (taken left : Text) → reading text ≡ Read x taken left → length left ≤ length text
left_less reading s text x taken left e = let k = ap length (s.reads text x taken left e) in let l = length-append taken left in omega (arith, k, l)

-- after a head fewer heads can come than before it
pub fewer_heads : {S : Type 0} (w : Waits S) (s : S) (left : List S) (end text : Text) → length end ≤ length text → IfMore w (length end < length text) → heads_within (waiting w left) end < heads_within (s ∷ left) text
fewer_heads waits.Nothing s left end text l m = omega (arith, l)
fewer_heads (waits.One t) s left end text l m = let k : length end < length text = m in omega (arith, k)
fewer_heads (waits.Two t u) s left end text l m = let k : length end < length text = m in omega (arith, k)

more_less : {S : Type 0} (w : Waits S) (end mid text : Text) → length mid ≤ length text → IfMore w (length end < length mid) → IfMore w (length end < length text)
more_less waits.Nothing end mid text l m = tt
more_less (waits.One t) end mid text l m = let k : length end < length mid = m in omega (arith, k, l)
more_less (waits.Two t u) end mid text l m = let k : length end < length mid = m in omega (arith, k, l)

-- the same, where white space came before the head
pub fewer_after_space : {S : Type 0} (w : Waits S) (s : S) (left : List S) (end text : Text) → length end ≤ length (after_space text) → IfMore w (length end < length (after_space text)) → heads_within (waiting w left) end < heads_within (s ∷ left) text
fewer_after_space w s left end text l m = let k = less_space text in fewer_heads w s left end text (omega (arith, k, l)) (more_less w end (after_space text) text k m)

module _ {S H : Type 0} (growth : Growth S H) (reading : S → Reader H) (written : H → Text) (law : GrammarLaw growth reading written) where
  abbrev text_of : List H → Text
  text_of = heads_text written

  -- each place that waits is begun by a closing character or white space
  abbrev AllClose : List S → Type 0
  AllClose [] = Unit {0}
  AllClose (s ∷ left) = (law.closing s ≡ true) × AllClose left

  -- the same, without the next one
  abbrev RestClose : List S → Type 0
  RestClose [] = Unit {0}
  RestClose (s ∷ left) = AllClose left

  -- what waits after a head, if what waited before it closes
  waits_close : (w : Waits S) (left : List S) → SecondIs law.closing w → AllClose left → RestClose (waiting w left)
  waits_close waits.Nothing [] k a = tt
  waits_close waits.Nothing (s ∷ left) k a = a.1
  waits_close (waits.One s) left k a = a
  waits_close (waits.Two s t) left k a = (k, a)

  place_of : (s : S) (h : H) (more : Bool) → (growth.same s (growth.place h) && more) ≡ true → s ≡ growth.place h
  place_of s h more e = (law.decides s (growth.place h)).0 (and_left (growth.same s (growth.place h)) more e)

  -- where the places that wait all close, what comes can end a text
  ends_there : (left : List S) (hs : List H) (rest : Text) → AllClose left → fills growth left hs ≡ true → Ends rest → Ends (text_of hs ++ rest)
  ends_there [] [] rest a f e = e
  ends_there [] (h ∷ hs) rest a f e = absurd (true≢false (sym f))
  ends_there (s ∷ left) [] rest a f e = absurd (true≢false (sym f))
  ends_there (s ∷ left) (h ∷ hs) rest a f e =
      let p = place_of s h _ f in
      subst Ends (sym (append_assoc (written h) (text_of hs) rest)) (law.closes h (text_of hs ++ rest) (ap law.closing (sym p) ∙ a.0))

  leads_by : (s : S) (h : H) (rest : Text) (b : Bool) → growth.same growth.start s ≡ b → s ≡ growth.place h → cond b (begins begins_word (written h ++ rest)) true ≡ true
  leads_by s h rest true q p = law.starts h rest (sym ((law.decides growth.start s).0 q ∙ p))
  leads_by s h rest false q p = refl

  -- the text of the heads can come at the next place that waits
  leads_there : (s : S) (left : List S) (hs : List H) (rest : Text) → fills growth (s ∷ left) hs ≡ true → leads growth s (text_of hs ++ rest) ≡ true
  leads_there s left [] rest f = absurd (true≢false (sym f))
  leads_there s left (h ∷ hs) rest f =
      ap (λ z. leads growth s z) (append_assoc (written h) (text_of hs) rest) ∙ leads_by s h (text_of hs ++ rest) (growth.same growth.start s) refl (place_of s h _ f)

  -- what comes after a head can come there
  follows_there : (w : Waits S) (left : List S) (hs : List H) (rest : Text) → AllClose left → fills growth (waiting w left) hs ≡ true → Ends rest → Follows growth w (text_of hs ++ rest)
  follows_there waits.Nothing left hs rest a f e = ends_there left hs rest a f e
  follows_there (waits.One s) left hs rest a f e = leads_there s left hs rest f
  follows_there (waits.Two s t) left hs rest a f e = leads_there s (t ∷ left) hs rest f

  -- the heads of the places that wait are parsed, if there is room for them
  grown_back : (n : ℕ) (left : List S) (before hs : List H) (rest text : Text) → RestClose left → fills growth left hs ≡ true → Ends rest → after_space text ≡ after_space (text_of hs ++ rest) → heads_within left text < n
      → (end : Text) × (verdict (grown growth reading n left before text) ≡ found (before ++ hs) end) × (after_space end ≡ after_space rest)
  grown_back n [] before [] rest text c f e same room = (text, ap (λ z. found z text) (sym (append-nil before)), same)
  grown_back n [] before (h ∷ hs) rest text c f e same room = absurd (true≢false (sym f))
  grown_back n (s ∷ left) before [] rest text c f e same room = absurd (true≢false (sym f))
  grown_back zero (s ∷ left) before (h ∷ hs) rest text c f e same room = absurd (omega (arith, room))
  grown_back (suc n) (s ∷ left) before (h ∷ hs) rest text c f e same room =
      let more = fills growth (waiting (growth.waits h) left) hs in
      let p = place_of s h more f in
      let g = and_right (growth.same s (growth.place h)) more f in
      let tail = text_of hs ++ rest in
      let flat = append_assoc (written h) (text_of hs) rest in
      let one = law.back h tail (follows_there (growth.waits h) left hs rest c g e) in
      let here : verdict (reading s (after_space text)) ≡ found h one.0 = ap (λ z. verdict (reading z (after_space text))) p ∙ (ap (λ z. verdict (reading (growth.place h) z)) (same ∙ ap after_space flat) ∙ one.1) in
      let read = read_found (reading s (after_space text)) h one.0 here in
      let less = left_less (reading s) (law.sincere s) (after_space text) h read.0 one.0 read.1 in
      let fewer = fewer_after_space (growth.waits h) s left one.0 text less (law.advances s (after_space text) h read.0 one.0 read.1) in
      let all = grown_back n (waiting (growth.waits h) left) (before ++ (h ∷ [])) hs rest one.0 (waits_close (growth.waits h) left (law.second h) c) g e one.2 (omega (arith, fewer, room)) in (
        all.0,
        then_found ((space_at ▷ reading s) text) (λ h u. grown growth reading n (waiting (growth.waits h) left) (before ++ (h ∷ [])) u) h (before ++ (h ∷ hs)) one.0 all.0 (spaced_found (reading s) text h one.0 here) (all.1 ∙ ap (λ z. found z all.0) (append_assoc before (h ∷ []) hs)),
        all.2,
      )

  -- a first head of a tree
  first_starts : (hs : List H) (rest : Text) → is_tree growth hs ≡ true → begins begins_word (text_of hs ++ rest) ≡ true
  first_starts [] rest f = absurd (true≢false (sym f))
  first_starts (h ∷ hs) rest f =
      ap (begins begins_word) (append_assoc (written h) (text_of hs) rest) ∙ law.starts h (text_of hs ++ rest) (sym (place_of growth.start h _ f))

  -- a tree's heads are parsed back
  heads_back : (hs : List H) (rest : Text) → is_tree growth hs ≡ true → Ends rest → (end : Text) × (verdict (heads_at growth reading (text_of hs ++ rest)) ≡ found hs end) × (after_space end ≡ after_space rest)
  heads_back [] rest f e = absurd (true≢false (sym f))
  heads_back (h ∷ hs) rest f e =
      let more = fills growth (waiting (growth.waits h) []) hs in
      let p = place_of growth.start h more f in
      let g = and_right (growth.same growth.start (growth.place h)) more f in
      let tail = text_of hs ++ rest in
      let text = text_of (h ∷ hs) ++ rest in
      let flat = append_assoc (written h) (text_of hs) rest in
      let one = law.back h tail (follows_there (growth.waits h) [] hs rest tt g e) in
      let here : verdict (reading growth.start text) ≡ found h one.0 = ap (λ z. verdict (reading z text)) p ∙ (ap (λ z. verdict (reading (growth.place h) z)) (sym (word_tight text (first_starts (h ∷ hs) rest f)) ∙ ap after_space flat) ∙ one.1) in
      let all = grown_back (suc (heads_within (waiting (growth.waits h) []) one.0)) (waiting (growth.waits h) []) (h ∷ []) hs rest one.0 (waits_close (growth.waits h) [] (law.second h) tt) g e one.2 (omega arith) in
      (all.0, then_found (reading growth.start text) (grown_after growth reading) h (h ∷ hs) one.0 all.0 here all.1, all.2)

  -- a tree begins with one of the words, if each head with which one can begin does
  heads_lead : (words : List Text) → HeadsLed growth words written → (hs : List H) (rest : Text) → is_tree growth hs ≡ true → Ends rest → is_one_of words (front in_dotted (text_of hs ++ rest)) ≡ true
  heads_lead words l [] rest f e = absurd (true≢false (sym f))
  heads_lead words l (h ∷ hs) rest f e =
      let more = fills growth (waiting (growth.waits h) []) hs in
      let p = place_of growth.start h more f in
      let g = and_right (growth.same growth.start (growth.place h)) more f in
      ap (λ z. is_one_of words (front in_dotted z)) (append_assoc (written h) (text_of hs) rest) ∙ l h (text_of hs ++ rest) (sym p) (follows_there (growth.waits h) [] hs rest tt g e)

  -- a tree's text begins as that of its first head
  heads_begin : (P : Text → Type 0) → ((h : H) (rest : Text) → growth.place h ≡ growth.start → P (written h ++ rest)) → (hs : List H) (rest : Text) → is_tree growth hs ≡ true → P (text_of hs ++ rest)
  heads_begin P k [] rest f = absurd (true≢false (sym f))
  heads_begin P k (h ∷ hs) rest f = subst P (sym (append_assoc (written h) (text_of hs) rest)) (k h (text_of hs ++ rest) (sym (place_of growth.start h _ f)))

  scalars_all : (hs : List H) → all_scalars (text_of hs) ≡ true
  scalars_all [] = refl
  scalars_all (h ∷ hs) = scalars_more (written h) (text_of hs) (law.scalars h) (scalars_all hs)

  of_grown : (n : ℕ) (left : List S) (before : List H) (text : Text) → Of text (grown growth reading n left before text)
  of_grown n [] before text = of_read text before [] text refl
  of_grown zero (s ∷ left) before text = of_here text _ refl
  of_grown (suc n) (s ∷ left) before text = of_followed text _ _ (of_followed text _ _ (of_space text) (λ _ t. of_sincere (reading s) (law.sincere s) t)) (λ h u. of_grown n (waiting (growth.waits h) left) (before ++ (h ∷ [])) u)

  of_heads : (text : Text) → Of text (heads_at growth reading text)
  of_heads text = of_followed text _ _ (of_sincere (reading growth.start) (law.sincere growth.start) text) (λ h t. of_grown (suc (heads_within (waiting (growth.waits h) []) t)) (waiting (growth.waits h) []) (h ∷ []) t)

module _ {S H : Type 0} (g : grows.Ghosts S H) (reading : S → Reader H) (written : H → Text) (law : GrammarLaw g.growth reading written) where
  of_whole : (o : Option (Tree S H g)) (text : Text) → Of text (whole_at g o text)
  of_whole (Some t) text = of_read text t [] text refl
  of_whole None text = of_here text _ refl

  pub tree_lawful : Lawful (Tree S H g) (texts_of (tree_at g reading) (tree_text g written))
  tree_lawful = record {
    starts = λ t rest. first_starts g.growth reading written law t.heads rest t.whole;
    misses = λ text e. then_missing (heads_at g.growth reading text) (λ hs. whole_at g (tree_of g hs)) (then_missing (reading g.growth.start text) (grown_after g.growth reading) (law.misses text e));
    again = λ t rest e.
        let k = heads_back g.growth reading written law t.heads rest t.whole e in
        (k.0, then_found (heads_at g.growth reading (heads_text written t.heads ++ rest)) (λ hs. whole_at g (tree_of g hs)) t.heads t k.0 k.0 k.1 (ap (λ o. verdict (whole_at g o k.0)) (tree_found g t)), k.2);
    scalars = λ t. scalars_all g.growth reading written law t.heads;
  }

  pub tree_sincere : Sincere (tree_at g reading)
  tree_sincere = sincere_of (tree_at g reading) (λ text. of_followed text _ _ (of_heads g.growth reading written law text) (λ hs t. of_whole (tree_of g hs) t))

  pub tree_led : {words : List Text} → HeadsLed g.growth words written → BeginsWithWord words (tree_text g written)
  tree_led {words} l = record { leads = λ t rest e. heads_lead g.growth reading written law words l t.heads rest t.whole e }

  pub tree_unreserved : HeadsUnreserved g.growth written → Unreserved (Tree S H g) (texts_of (tree_at g reading) (tree_text g written))
  tree_unreserved u = record {
    given_names = λ t rest left k. heads_begin g.growth reading written law (λ z. keyword (codes "builtin.given_names") z left → ⊥) (λ h more p. u.given_names h more left p) t.heads rest t.whole k;
    identifier = λ t rest left k. heads_begin g.growth reading written law (λ z. keyword (codes "builtin.identifier") z left → ⊥) (λ h more p. u.identifier h more left p) t.heads rest t.whole k;
  }

pub tree_decides : {S H : Type 0} (g : grows.Ghosts S H) (head_eq : H → H → Bool) (eq : Tree S H g → Tree S H g → Bool) → ((x y : Tree S H g) → eq x y ≡ pointwise head_eq x.heads y.heads) → ((x y : H) → IsTrue (head_eq x y) ↔ (x ≡ y))
    → (x y : Tree S H g) → IsTrue (eq x y) ↔ (x ≡ y)
tree_decides g head_eq eq is d x y = (
  λ e.
      let p = (pointwise_decides d x.heads y.heads).0 (sym (is x y) ∙ e) in
      let f : Some x ≡ Some y = sym (tree_found g x) ∙ (ap (tree_of g) p ∙ tree_found g y) in ap (λ o. unwrap_or o x) f,
  λ e. is x y ∙ (pointwise_decides d x.heads y.heads).1 (ap (λ t. t.heads) e),
)
