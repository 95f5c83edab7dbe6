-- The law of heads whose texts begin with dotted words, from one row for each head; and of heads that are fixed texts.
use Rattle.std.proofs.Common.{◌≡◌, ℕ, ◌<◌, ◌≤◌, Bool, true, false, cond, Option, Some, None, List, [], ◌∷◌, ◌++◌, length, length-append, refl, sym, ◌∙◌, ap, ap₂, subst, append_assoc, arith, true≢false}
use Rattle.std.proofs.lemmas.Bool.Decides.{nat_tests}
use Rattle.std.specs.Prelude.{◌&&◌, ◌||◌, ◌==◌, codes}
use Rattle.std.specs.Cmp.Lexicographic.{bytes_decides}
use Rattle.std.specs.Char.{is_ascii}
use Rattle.std.specs.List.{list_all}
use Rattle.std.specs.Str.{bytes_eq, all_scalars}
use Rattle.irtext_base.specs.Text.{Text, begins, front, after, after_space, begins_word, in_dotted}
use Rattle.irtext_base.specs.Answers.{Outcome, Read, Missing, Bad, followed, mapped, prefixed}
use Rattle.irtext_base.specs.Faults.{Fault, Demand, Unexpected}
use Rattle.irtext_base.specs.Families.{is_one_of}
use Rattle.irtext_base.specs.Own.{Ends, Sincere, verdict, missing, found}
use Rattle.irtext_base.specs.Reading.{the, keyword}
use Rattle.irtext_base.specs.Stream.{first_of}
use Rattle.irtext_base.proofs.Characters.{and_left, and_right, front_all, after_all, word_tight}
use Rattle.irtext_base.proofs.Scalars.{scalars_more}
use Rattle.irtext_base.proofs.Sincere.{of_either, of_followed, of_mapped, of_read, of_sincere, sincere_of}
use Rattle.irtext_tokens.proofs.SincereTokens.{of_space, of_text}
use Rattle.irtext_tokens.specs.Infix.{Reader, nothing, either, ◌▷◌, ◌⇒◌}
use Rattle.irtext_tokens.specs.Tokens.{space_at, text_at}
use Rattle.irtext_syntax.specs.PartLaws.{IsRead, PartLaw}
use Rattle.irtext_syntax.specs.PartSteps.{then_found, mapped_found, then_missing, spaced_found, ascii_scalars}
use Rattle.irtext_syntax.specs.TableLaws.{differ, is_free}
use Rattle.irtext_syntax.specs.Tables.{table_at, is_word_of, Row, IsRest}
use Rattle.irtext_syntax.specs.Words.{chosen, dotted_at}
use Rattle.irtext_tree.specs.GrammarLaws.{IfMore, Placed}
use Rattle.irtext_tree.specs.Growths.{Growth}
use Rattle.irtext_tree.specs.Marks.{mark_at, closed_at, opened_at, more_at}
use Rattle.irtext_tree.specs.declared.waits.Waits.{Waits}
use Rattle.irtext_tree.specs.declared.waits.Waits.TheVariants as waits

-- ---- opened lists
same_the : (c d : ℕ) → the c d ≡ true → d ≡ c
same_the c d e = grind (arith, nat_tests)

the_other : (c d : ℕ) → begins_word c ≡ false → begins_word d ≡ true → the c d ≡ false
the_other c d e f = by (the c d) refl
  where
    by : (b : Bool) → the c d ≡ b → b ≡ false
    by true q = absurd (true≢false (sym f ∙ (ap begins_word (same_the c d q) ∙ e)))
    by false q = refl

begins_other : (c : ℕ) (text : Text) → begins_word c ≡ false → begins begins_word text ≡ true → begins (the c) text ≡ false
begins_other c [] e f = refl
begins_other c (d ∷ text) e f = the_other c d e f

-- where a letter or `_` comes, the list is not empty
closed_found : {H : Type 0} (filled : H) (c : ℕ) (empty : H) (text : Text) → begins_word c ≡ false → begins begins_word text ≡ true → verdict (closed_at filled c empty text) ≡ found filled text
closed_found filled c empty text e f =
    let item = either (begins (the c)) (mark_at (c ∷ []) empty) (nothing filled) in
    spaced_found item text filled text (ap (λ z. verdict (item z)) (word_tight text f) ∙ ap (λ b. verdict (cond b (mark_at (c ∷ []) empty text) (Read filled [] text))) (begins_other c text e f))

opened_found : {H : Type 0} (opener : Text) (filled : H) (c : ℕ) (empty : H) (text rest : Text) → verdict (text_at opener (after_space text)) ≡ found tt rest → begins_word c ≡ false → begins begins_word rest ≡ true → verdict (opened_at opener filled c empty text) ≡ found filled rest
opened_found opener filled c empty text rest there e f =
    spaced_found (text_at opener ▷ closed_at filled c empty) text filled rest (then_found (text_at opener (after_space text)) (λ _ t. closed_at filled c empty t) tt filled rest rest there (closed_found filled c empty rest e f))

-- ---- rows
-- how the text of a head is parsed by the table, before each text that can follow it
pub record HeadRow {W H : Type 0} (choose : Text → Option W) (following : W → Reader H) (words : List Text) (written : H → Text) (Follow : Text → Type 0) (h : H) : Type 0 where
  pub word : Text
  pub tail : Text
  pub kind : W
  pub is : written h ≡ word ++ tail
  pub listed : is_word_of words word ≡ true
  pub chosen : choose word ≡ Some kind
  pub stops : (rest : Text) → Follow rest → begins in_dotted (tail ++ rest) ≡ false
  pub back : (rest : Text) → Follow rest → IsRest (following kind) h (tail ++ rest) rest
  pub scalars : all_scalars tail ≡ true

module _ {W H : Type 0} {choose : Text → Option W} {following : W → Reader H} {words : List Text} {written : H → Text} where
  -- a head that nothing waits after
  pub closed_row : {h : H} → Row choose following words written h → HeadRow choose following words written Ends h
  closed_row r = record { word = r.word; tail = r.tail; kind = r.kind; is = r.is; listed = r.listed; chosen = r.chosen; stops = r.stops; back = r.back; scalars = r.scalars }

  -- a word, and after it a fixed text that any text can come after, such as ` <`
  pub mark_row : {Follow : Text → Type 0} (word mark : Text) (kind : W) (h : H)
      → written h ≡ word ++ mark → is_word_of words word ≡ true → choose word ≡ Some kind → all_scalars mark ≡ true → ((rest : Text) → begins in_dotted (mark ++ rest) ≡ false) → ((rest : Text) → IsRest (following kind) h (mark ++ rest) rest)
      → HeadRow choose following words written Follow h
  mark_row word mark kind h is listed picks scalars stops reads = record {
    word = word;
    tail = mark;
    kind = kind;
    is = is;
    listed = listed;
    chosen = picks;
    stops = λ rest e. stops rest;
    back = λ rest e. reads rest;
    scalars = scalars;
  }

  -- a word and an opening text, before a list of trees that is not empty
  pub opened_row : {Follow : Text → Type 0} (word opener : Text) (closer : ℕ) (kind : W) (filled empty : H)
      → written filled ≡ word ++ (32 ∷ opener) → is_word_of words word ≡ true → choose word ≡ Some kind → all_scalars opener ≡ true → begins_word closer ≡ false
      → ((rest : Text) → verdict (text_at opener (after_space (32 ∷ (opener ++ rest)))) ≡ found tt rest) → ((rest : Text) → Follow rest → begins begins_word rest ≡ true) → ((text : Text) → following kind text ≡ opened_at opener filled closer empty text)
      → HeadRow choose following words written Follow filled
  opened_row word opener closer kind filled empty is listed picks scalars other there leads reads = record {
    word = word;
    tail = 32 ∷ opener;
    kind = kind;
    is = is;
    listed = listed;
    chosen = picks;
    stops = λ rest e. refl;
    back = λ rest e. (rest, ap verdict (reads (32 ∷ (opener ++ rest))) ∙ opened_found opener filled closer empty (32 ∷ (opener ++ rest)) rest (there rest) other (leads rest e), refl);
    scalars = scalars;
  }

  -- a word, and after a space a part that any text can come after, printed with a space at its end
  pub spaced_open_row : {P : Type 0} {Follow : Text → Type 0} {reading : Reader P} {text_of : P → Text} {ends : Text → Bool} (word : Text) (kind : W) (make : P → H) (x : P)
      → PartLaw reading text_of ends → ((rest : Text) → ends rest ≡ true) → written (make x) ≡ word ++ (32 ∷ (text_of x ++ (32 ∷ []))) → is_word_of words word ≡ true → choose word ≡ Some kind → ((text : Text) → verdict (following kind text) ≡ verdict (mapped make ((space_at ▷ reading) text)))
      → HeadRow choose following words written Follow (make x)
  spaced_open_row {reading = reading} {text_of = text_of} word kind make x law any is listed picks reads = record {
    word = word;
    tail = 32 ∷ (text_of x ++ (32 ∷ []));
    kind = kind;
    is = is;
    listed = listed;
    chosen = picks;
    stops = λ rest e. refl;
    back = λ rest e. let k = law.back x (32 ∷ rest) (any (32 ∷ rest)) in
        let text = 32 ∷ (text_of x ++ (32 ∷ rest)) in
        (k.0, ap (λ z. verdict (following kind (32 ∷ z))) (append_assoc (text_of x) (32 ∷ []) rest) ∙ (reads text ∙ mapped_found make ((space_at ▷ reading) text) x k.0 (spaced_found reading text x k.0 k.1)), k.2);
    scalars = scalars_more (text_of x) (32 ∷ []) (law.scalars x) refl;
  }

begins_more : (test : ℕ → Bool) (s t : Text) → begins test s ≡ true → begins test (s ++ t) ≡ true
begins_more test [] t e = absurd (true≢false (sym e))
begins_more test (c ∷ s) t e = e

dotted_ascii : (c : ℕ) → in_dotted c ≡ true → is_ascii c ≡ true
dotted_ascii c e = grind (arith, nat_tests)

both : (a b : Bool) → a ≡ true → b ≡ true → (a && b) ≡ true
both true b e f = f
both false b e f = absurd (true≢false (sym e))

all_ascii : (s : Text) → list_all in_dotted s ≡ true → list_all is_ascii s ≡ true
all_ascii [] e = refl
all_ascii (c ∷ s) e = both (is_ascii c) (list_all is_ascii s) (dotted_ascii c (and_left (in_dotted c) (list_all in_dotted s) e)) (all_ascii s (and_right (in_dotted c) (list_all in_dotted s) e))

missed : {X : Type 0} (b : Bool) (o : Outcome X) (cause : _) → b ≡ false → verdict (cond b o (Missing cause)) ≡ missing
missed b o cause e = rw e refl

module _ {W : Type 0} (choose : Text → Option W) (refusal : Text) (demand : Demand) where
  dotted_read : (word rest : Text) (kind : W) → begins begins_word word ≡ true → list_all in_dotted word ≡ true → choose word ≡ Some kind → begins in_dotted rest ≡ false → dotted_at choose refusal demand (word ++ rest) ≡ Read kind word rest
  dotted_read word rest kind b d c s =
      ap (λ q. cond q (chosen refusal (front in_dotted (word ++ rest)) (after in_dotted (word ++ rest)) (choose (front in_dotted (word ++ rest)))) (Missing (Unexpected (first_of (word ++ rest)) demand))) (begins_more begins_word word rest b)
      ∙ (ap₂ (λ f a. chosen refusal f a (choose f)) (front_all in_dotted word rest d s) (after_all in_dotted word rest d s) ∙ ap (chosen refusal word rest) c)

  pub heads_missing : {H : Type 0} (following : W → Reader H) (text : Text) → begins begins_word text ≡ false → verdict (table_at choose following refusal demand text) ≡ missing
  heads_missing following text e = then_missing (dotted_at choose refusal demand text) following (missed (begins begins_word text) _ _ e)

module _ {W H : Type 0} {choose : Text → Option W} {following : W → Reader H} {words : List Text} {written : H → Text} where
  pub head_starts : {Follow : Text → Type 0} {h : H} → HeadRow choose following words written Follow h → (rest : Text) → begins begins_word (written h ++ rest) ≡ true
  head_starts r rest = ap (λ z. begins begins_word (z ++ rest)) r.is ∙ (ap (begins begins_word) (append_assoc r.word r.tail rest) ∙ begins_more begins_word r.word (r.tail ++ rest) (and_left (begins begins_word r.word) _ r.listed))

  pub head_back : (refusal : Text) (demand : Demand) {Follow : Text → Type 0} {h : H} → HeadRow choose following words written Follow h → (rest : Text) → Follow rest → IsRead (table_at choose following refusal demand) h (written h ++ rest) rest
  head_back refusal demand {h = h} r rest e =
      let at = table_at choose following refusal demand in
      let b = and_left (begins begins_word r.word) _ r.listed in
      let d = and_left (list_all in_dotted r.word) _ (and_right (begins begins_word r.word) _ r.listed) in
      let k = r.back rest e in
      let flat = ap (λ z. z ++ rest) r.is ∙ append_assoc r.word r.tail rest in
      let lead = dotted_read choose refusal demand r.word (r.tail ++ rest) r.kind b d r.chosen (r.stops rest e) in
      (k.0, ap (λ z. verdict (at z)) (word_tight (written h ++ rest) (head_starts r rest) ∙ flat) ∙ then_found (dotted_at choose refusal demand (r.word ++ (r.tail ++ rest))) following r.kind h (r.tail ++ rest) k.0 (ap verdict lead) k.1, k.2)

  pub head_led : {Follow : Text → Type 0} {h : H} → HeadRow choose following words written Follow h → (rest : Text) → Follow rest → is_one_of words (front in_dotted (written h ++ rest)) ≡ true
  head_led r rest e =
      ap (λ z. is_one_of words (front in_dotted (z ++ rest))) r.is ∙ (ap (λ z. is_one_of words (front in_dotted z)) (append_assoc r.word r.tail rest)
      ∙ (ap (is_one_of words) (front_all in_dotted r.word (r.tail ++ rest) (and_left (list_all in_dotted r.word) _ (and_right (begins begins_word r.word) _ r.listed)) (r.stops rest e))
      ∙ and_right (list_all in_dotted r.word) _ (and_right (begins begins_word r.word) _ r.listed)))

  pub head_scalars : {Follow : Text → Type 0} {h : H} → HeadRow choose following words written Follow h → all_scalars (written h) ≡ true
  head_scalars r = ap all_scalars r.is ∙ scalars_more r.word r.tail (ascii_scalars r.word (all_ascii r.word (and_left (list_all in_dotted r.word) _ (and_right (begins begins_word r.word) _ r.listed)))) r.scalars

-- ---- each head takes a character or more
-- what is read of a text is shorter than the text
abbrev pub Advances : {H : Type 0} → Reader H → Type 0
Advances {H} reading = (text : Text) (h : H) (taken left : Text) → reading text ≡ Read h taken left → length left < length text

prefixed_read : {H : Type 0} (before : Text) (o : Outcome H) (h : H) (taken left : Text) → prefixed before o ≡ Read h taken left → (t : Text) × (o ≡ Read h t left)
prefixed_read before (Read y u r) h taken left e =
    let p : (y ≡ h) × (r ≡ left) = (cc, cc) in
    (u, rw (p.0, p.1) refl)
prefixed_read before (Missing cause) h taken left e = absurd (cc)
prefixed_read before (Bad cause upto) h taken left e = absurd (cc)

pub then_advances : {X H : Type 0} (first : Reader X) (next : X → Reader H) → Advances first → ((x : X) → Sincere (next x)) → Advances (λ t. followed (first t) next)
then_advances first next a s text h taken left e = by (first text) refl e
  where
    by : (o : Outcome _) → first text ≡ o → followed o next ≡ Read h taken left → length left < length text
    by (Read x t u) q e =
        let r = prefixed_read t (next x u) h taken left e in
        let k = (s x).reads u h r.0 left r.1 in
        let l = a text x t u q in
        let m = length-append r.0 left in
        omega (arith, ap length k, l, m)
    by (Missing cause) q e = absurd (cc)
    by (Bad cause upto) q e = absurd (cc)

after_le : (test : ℕ → Bool) (text : Text) → length (after test text) ≤ length text
after_le test [] = omega arith
after_le test (c ∷ text) = by (test c) (after_le test text)
  where
    by : (b : Bool) → length (after test text) ≤ length text → length (cond b (after test text) (c ∷ text)) ≤ length (c ∷ text)
    by true l = omega (arith, l)
    by false l = omega arith

word_dotted : (c : ℕ) → begins_word c ≡ true → in_dotted c ≡ true
word_dotted c e = grind (arith, nat_tests)

after_lt : (text : Text) → begins begins_word text ≡ true → length (after in_dotted text) < length text
after_lt [] e = absurd (true≢false (sym e))
after_lt (c ∷ text) e =
    let l = after_le in_dotted text in
    let p : after in_dotted (c ∷ text) ≡ after in_dotted text = ap (λ b. cond b (after in_dotted text) (c ∷ text)) (word_dotted c e) in
    omega (arith, l, ap length p)

pub dotted_advances : {W : Type 0} (choose : Text → Option W) (refusal : Text) (demand : Demand) → Advances (dotted_at choose refusal demand)
dotted_advances choose refusal demand text w taken left e = by (begins begins_word text) refl (choose (front in_dotted text)) e
  where
    by : (b : Bool) → begins begins_word text ≡ b → (o : Option _) → cond b (chosen refusal (front in_dotted text) (after in_dotted text) o) (Missing (Unexpected (first_of text) demand)) ≡ Read w taken left → length left < length text
    by true q (Some x) e = let p : after in_dotted text ≡ left = cc in let l = after_lt text q in omega (arith, l, ap length p)
    by true q None e = absurd (cc)
    by false q o e = absurd (cc)

pub table_advances : {W H : Type 0} (choose : Text → Option W) (following : W → Reader H) (refusal : Text) (demand : Demand) → ((w : W) → Sincere (following w)) → Advances (table_at choose following refusal demand)
table_advances choose following refusal demand s = then_advances (dotted_at choose refusal demand) following (dotted_advances choose refusal demand) s

if_more : {S : Type 0} (w : Waits S) (P : Type 0) → P → IfMore w P
if_more waits.Nothing P p = tt
if_more (waits.One s) P p = p
if_more (waits.Two s t) P p = p

-- what takes a character or more does so if places wait after what was read
pub advances_if : {S H : Type 0} {reading : Reader H} (growth : Growth S H) → Advances reading → (text : Text) (h : H) (taken left : Text) → reading text ≡ Read h taken left → IfMore (growth.waits h) (length left < length text)
advances_if growth a text h taken left e = if_more (growth.waits h) (length left < length text) (a text h taken left e)

-- ---- fixed texts of one character
pub mark_advances : {H : Type 0} (c : ℕ) (h : H) → Advances (mark_at (c ∷ []) h)
mark_advances c h [] x taken left e = absurd (cc)
mark_advances c h (d ∷ text) x taken left e = by (the c d) _ tt e
  where
    by : (b : Bool) (cause : Fault) (u : Unit {0}) → mapped (λ _. h) (cond b (prefixed (d ∷ []) (Read u [] text)) (Missing cause)) ≡ Read x taken left → length left < length (d ∷ text)
    by true cause u e = let p : text ≡ left = cc in omega (arith, ap length p)
    by false cause u e = absurd (cc)

pub mark_sincere : {H : Type 0} (text : Text) (h : H) → Sincere (mark_at text h)
mark_sincere text h = sincere_of (mark_at text h) (λ t. of_mapped t (λ _. h) (text_at text t) (of_text text t))

pub more_advances : {H : Type 0} (separator : ℕ) (more : H) (closer : ℕ) (end : H) → Advances (more_at separator more (closer ∷ []) end)
more_advances c more d end text h taken left e = by (begins (the c) text) e
  where
    by : (b : Bool) → cond b (mark_at (c ∷ []) more text) (mark_at (d ∷ []) end text) ≡ Read h taken left → length left < length text
    by true q = mark_advances c more text h taken left q
    by false q = mark_advances d end text h taken left q

pub more_sincere : {H : Type 0} (separator : ℕ) (more : H) (closer : Text) (end : H) → Sincere (more_at separator more closer end)
more_sincere c more closer end = sincere_of (more_at c more closer end) (λ t. of_either t (begins (the c) t) _ _ (of_sincere (mark_at (c ∷ []) more) (mark_sincere (c ∷ []) more) t) (of_sincere (mark_at closer end) (mark_sincere closer end) t))

-- a fixed text after a word
pub opening_sincere : {H : Type 0} (text : Text) (h : H) → Sincere (space_at ▷ mark_at text h)
opening_sincere text h = sincere_of (space_at ▷ mark_at text h) (λ t. of_followed t _ _ (of_space t) (λ _ u. of_sincere (mark_at text h) (mark_sincere text h) u))

closed_sincere : {H : Type 0} (filled : H) (c : ℕ) (empty : H) → Sincere (closed_at filled c empty)
closed_sincere filled c empty = sincere_of (closed_at filled c empty) (λ t. of_followed t _ _ (of_space t) (λ _ u. of_either u (begins (the c) u) _ _ (of_sincere (mark_at (c ∷ []) empty) (mark_sincere (c ∷ []) empty) u) (of_read u filled [] u refl)))

pub opened_sincere : {H : Type 0} (opener : Text) (filled : H) (closer : ℕ) (empty : H) → Sincere (opened_at opener filled closer empty)
opened_sincere opener filled c empty = sincere_of (opened_at opener filled c empty) (λ t. of_followed t _ _ (of_space t) (λ _ u. of_followed u _ _ (of_text opener u) (λ _ v. of_sincere (closed_at filled c empty) (closed_sincere filled c empty) v)))

-- ---- each head that is parsed at a place is one of it
module _ {S H : Type 0} (growth : Growth S H) (s : S) where
  placed_by : {X : Type 0} (o : Outcome X) (make : X → H) (h : H) (taken left : Text) → ((x : X) → growth.same s (growth.place (make x)) ≡ true) → mapped make o ≡ Read h taken left → growth.same s (growth.place h) ≡ true
  placed_by (Read x t r) make h taken left k e =
      let p : make x ≡ h = cc in
      subst (λ z. growth.same s (growth.place z) ≡ true) p (k x)
  placed_by (Missing cause) make h taken left k e = absurd (cc)
  placed_by (Bad cause upto) make h taken left k e = absurd (cc)

  then_placed : {X : Type 0} (o : Outcome X) (next : X → Reader H) → ((x : X) → Placed growth s (next x)) → (h : H) (taken left : Text) → followed o next ≡ Read h taken left → growth.same s (growth.place h) ≡ true
  then_placed (Read x t r) next k h taken left e = let q = prefixed_read t (next x r) h taken left e in k x r h q.0 left q.1
  then_placed (Missing cause) next k h taken left e = absurd (cc)
  then_placed (Bad cause upto) next k h taken left e = absurd (cc)

  -- a word, and what comes after it
  pub table_placed : {W : Type 0} (choose : Text → Option W) (following : W → Reader H) (refusal : Text) (demand : Demand) → ((w : W) → Placed growth s (following w)) → Placed growth s (table_at choose following refusal demand)
  table_placed choose following refusal demand k text h taken left e = then_placed (dotted_at choose refusal demand text) following k h taken left e

  -- a part after a word
  pub part_placed : {X : Type 0} (reading : Reader X) (make : X → H) → ((x : X) → growth.same s (growth.place (make x)) ≡ true) → Placed growth s ((space_at ▷ reading) ⇒ make)
  part_placed reading make k text h taken left e = placed_by ((space_at ▷ reading) text) make h taken left k e

  -- nothing after a word
  pub word_placed : (x : H) → growth.same s (growth.place x) ≡ true → Placed growth s (nothing x)
  word_placed x k text h taken left e =
      let p : x ≡ h = cc in
      subst (λ z. growth.same s (growth.place z) ≡ true) p k

  -- a fixed text
  pub mark_placed : (mark : Text) (x : H) → growth.same s (growth.place x) ≡ true → Placed growth s (mark_at mark x)
  mark_placed mark x k text h taken left e = placed_by (text_at mark text) (λ _. x) h taken left (λ _. k) e

  -- a fixed text after a word
  pub opening_placed : (mark : Text) (x : H) → growth.same s (growth.place x) ≡ true → Placed growth s (space_at ▷ mark_at mark x)
  opening_placed mark x k text h taken left e = then_placed (space_at text) (λ _ t. mark_at mark x t) (λ _. mark_placed mark x k) h taken left e

  either_placed : (b : Bool) (o p : Outcome H) (h : H) (taken left : Text) → (o ≡ Read h taken left → growth.same s (growth.place h) ≡ true) → (p ≡ Read h taken left → growth.same s (growth.place h) ≡ true) → cond b o p ≡ Read h taken left → growth.same s (growth.place h) ≡ true
  either_placed true o p h taken left f g e = f e
  either_placed false o p h taken left f g e = g e

  -- what comes after an item of a list
  pub more_placed : (separator : ℕ) (more : H) (closer : Text) (end : H) → growth.same s (growth.place more) ≡ true → growth.same s (growth.place end) ≡ true → Placed growth s (more_at separator more closer end)
  more_placed c more closer end f g text h taken left e = either_placed (begins (the c) text) (mark_at (c ∷ []) more text) (mark_at closer end text) h taken left (mark_placed (c ∷ []) more f text h taken left) (mark_placed closer end g text h taken left) e

  closed_placed : (filled : H) (c : ℕ) (empty : H) → growth.same s (growth.place filled) ≡ true → growth.same s (growth.place empty) ≡ true → Placed growth s (closed_at filled c empty)
  closed_placed filled c empty f g text h taken left e =
      then_placed (space_at text) (λ _. either (begins (the c)) (mark_at (c ∷ []) empty) (nothing filled)) (λ _ t h taken left e. either_placed (begins (the c) t) (mark_at (c ∷ []) empty t) (nothing filled t) h taken left (mark_placed (c ∷ []) empty g t h taken left) (word_placed filled f t h taken left) e) h taken left e

  -- the opening text of a list that may be empty
  pub opened_placed : (opener : Text) (filled : H) (closer : ℕ) (empty : H) → growth.same s (growth.place filled) ≡ true → growth.same s (growth.place empty) ≡ true → Placed growth s (opened_at opener filled closer empty)
  opened_placed opener filled c empty f g text h taken left e =
      then_placed (space_at text) (λ _. text_at opener ▷ closed_at filled c empty) (λ _ t h taken left e. then_placed (text_at opener t) (λ _. closed_at filled c empty) (λ _. closed_placed filled c empty f g) h taken left e) h taken left e

-- ---- words that are reserved
heads_of : (c d : ℕ) (s t : Text) → ◌≡◌ {A = Text} (c ∷ s) (d ∷ t) → (c ≡ d) × (s ≡ t)
heads_of c d s t e = (cc, cc)

not_equal : (c d : ℕ) → (c == d) ≡ false → c ≡ d → ⊥
not_equal c d q p = absurd (grind (arith, nat_tests))

apart_by : (b : Bool) (c d : ℕ) (rest : Bool) → (c == d) ≡ b → c ≡ d → cond b rest true ≡ true → (rest ≡ true → ⊥) → ⊥
apart_by true c d rest q p e k = k e
apart_by false c d rest q p e k = not_equal c d q p

differ_apart : (s t u v : Text) → differ s t ≡ true → s ++ u ≡ t ++ v → ⊥
differ_apart [] t u v e f = true≢false (sym e)
differ_apart (c ∷ s) [] u v e f = true≢false (sym e)
differ_apart (c ∷ s) (d ∷ t) u v e f =
    let h = heads_of c d (s ++ u) (t ++ v) f in
    apart_by (c == d) c d (differ s t) refl h.0 e (λ g. differ_apart s t u v g h.1)

free_by : (b : Bool) (w word : Text) (others : Bool) → bytes_eq word w ≡ b → (b || others) ≡ true → is_free w ≡ true → (others ≡ true → is_free word ≡ true) → is_free word ≡ true
free_by true w word others q e f k = ap is_free ((bytes_decides word w).0 q) ∙ f
free_by false w word others q e f k = k e

free_one : (words : List Text) (word : Text) → list_all is_free words ≡ true → is_one_of words word ≡ true → is_free word ≡ true
free_one [] word f e = absurd (true≢false (sym e))
free_one (w ∷ words) word f e =
    free_by (bytes_eq word w) w word (is_one_of words word) refl e (and_left (is_free w) (list_all is_free words) f) (λ g. free_one words word (and_right (is_free w) (list_all is_free words) f) g)

module _ {W H : Type 0} {choose : Text → Option W} {following : W → Reader H} {words : List Text} {written : H → Text} where
  row_free : {Follow : Text → Type 0} {h : H} → (r : HeadRow choose following words written Follow h) → list_all is_free words ≡ true → is_free r.word ≡ true
  row_free r f = free_one words r.word f (and_right (list_all in_dotted r.word) _ (and_right (begins begins_word r.word) _ r.listed))

  whole_row : {Follow : Text → Type 0} {h : H} → (r : HeadRow choose following words written Follow h) → (rest : Text) → r.word ++ (r.tail ++ rest) ≡ written h ++ rest
  whole_row r rest = sym (ap (λ z. z ++ rest) r.is ∙ append_assoc r.word r.tail rest)

  -- where no word is reserved, no head's text begins with a reserved word
  pub head_given_names : {Follow : Text → Type 0} {h : H} → HeadRow choose following words written Follow h → list_all is_free words ≡ true → (rest left : Text) → keyword (codes "builtin.given_names") (written h ++ rest) left → ⊥
  head_given_names r f rest left k = differ_apart r.word (codes "builtin.given_names") (r.tail ++ rest) left (and_left _ _ (row_free r f)) (whole_row r rest ∙ k.0)

  pub head_identifier : {Follow : Text → Type 0} {h : H} → HeadRow choose following words written Follow h → list_all is_free words ≡ true → (rest left : Text) → keyword (codes "builtin.identifier") (written h ++ rest) left → ⊥
  head_identifier r f rest left k = differ_apart r.word (codes "builtin.identifier") (r.tail ++ rest) left (and_right _ _ (row_free r f)) (whole_row r rest ∙ k.0)
