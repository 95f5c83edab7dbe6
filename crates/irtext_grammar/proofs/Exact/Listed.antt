-- A list's parser returns what the grammar parses as a list, where that of its items does.
use Rattle.std.proofs.Common.{◌≡◌, ◌∙◌, ℕ, Bool, true, false, cond, List, [], ◌∷◌, ◌++◌, map, length, refl, sym, ap, subst, true≢false}
use Rattle.std.proofs.lemmas.List.{map-id}
use Rattle.irtext_base.specs.Text.{Text, begins}
use Rattle.irtext_base.specs.Reading.{Reading, ◌▹◌, ◌▸◌, the, white, separated}
use Rattle.irtext_base.specs.Faults.{Fault, Unexpected, Word, EmptyItem}
use Rattle.irtext_base.specs.Stream.{first_of}
use Rattle.irtext_base.specs.Answers.{Outcome, Read, Missing, Bad, mapped, followed, prefixed}
use Rattle.irtext_tokens.specs.Infix.{Reader, ◌▶◌}
use Rattle.irtext_tokens.specs.ListOutcomes.{items_after, or_empty, separated_at}
use Rattle.irtext_tokens.specs.Tokens.{space_at, word, spelled_at}
use Rattle.irtext_grammar.proofs.Joins.Lists.{Items, first_missing, splits_separated, list_read, list_tight, list_found, ListFound, all_fine, one_stops}
use Rattle.irtext_grammar.specs.Exact.{Exact}

-- ---- where an item is missing
-- Where the parser finds an item missing, and only there, this holds of the text.
pub record Starts {X : Type 0} (item : Reader X) (none : Text → Type 0) : Type 0 where
  pub misses : (text : Text) (cause : Fault) → item text ≡ Missing cause → none text
  pub missed : (text : Text) → none text → (cause : Fault) × (item text ≡ Missing cause)

-- what was seen as missing was missing
pub mapped_missing : {X Y : Type 0} (see : X → Y) (o : Outcome X) (cause : Fault) → mapped see o ≡ Missing cause → o ≡ Missing cause
mapped_missing see (Read x taken rest) cause e = absurd (cc e)
mapped_missing see (Missing c) cause e = let f : c ≡ cause = cc e in ap (λ c. Missing c) f
mapped_missing see (Bad c upto) cause e = absurd (cc e)

module _ {X Y : Type 0} where
  -- one parser, and after it another: the first one decides whether anything is missing
  pub starts_so : {f : Reader X} {none : Text → Type 0} (k : X → Reader Y) → Starts f none → Starts (f ▶ k) none
  starts_so {f = f} k h = record {
    misses = λ text cause e. h.misses text cause (first_missing (f text) k cause e);
    missed = λ text n. let m = h.missed text n in (m.0, ap (λ o. followed o k) m.1);
  }

  -- a value that is seen by a function of the text
  pub starts_seen : {f : Reader X} {none : Text → Type 0} (see : Text → X → Y) → Starts f none → Starts (λ text. mapped (see text) (f text)) none
  starts_seen {f = f} see h = record {
    misses = λ text cause e. h.misses text cause (mapped_missing (see text) (f text) cause e);
    missed = λ text n. let m = h.missed text n in (m.0, ap (mapped (see text)) m.1);
  }

-- a fixed text is missing where the text does not begin with its first character
pub starts_word : (c : ℕ) (w : Text) → Starts (word (c ∷ w)) (λ text. begins (the c) text ≡ false)
starts_word c w = record { misses = misses; missed = missed }
  where
    misses : (text : Text) (cause : Fault) → spelled_at (c ∷ w) (c ∷ w) text ≡ Missing cause → begins (the c) text ≡ false
    misses [] cause e = refl
    misses (d ∷ text) cause e = go (the c d) refl e
      where
        go : (b : Bool) → the c d ≡ b → cond b (prefixed (d ∷ []) (spelled_at (c ∷ w) w text)) (Missing (Unexpected (first_of (d ∷ text)) (Word (c ∷ w)))) ≡ Missing cause → the c d ≡ false
        go true f e = absurd (let g = first_missing (Read (tt {0}) (d ∷ []) text) (λ _ t. spelled_at (c ∷ w) w t) cause e in cc g)
        go false f e = f

    missed : (text : Text) → begins (the c) text ≡ false → (cause : Fault) × (spelled_at (c ∷ w) (c ∷ w) text ≡ Missing cause)
    missed [] n = (_, refl)
    missed (d ∷ text) n = (Unexpected (first_of (d ∷ text)) (Word (c ∷ w)), rw n refl)

-- ---- lists
-- where its first item is missing, a list is empty
pub none_listed : {X : Type 0} {item : Reader X} {none : Text → Type 0} (separator : ℕ) → Starts item none → (text : Text) → none text → separated_at separator item text ≡ Read [] [] text
none_listed {item = item} separator h text n =
    ap (λ o. or_empty (followed (followed o (λ x t. mapped (λ _. x ∷ []) (space_at t))) (λ found t. items_after separator item (length t) found t)) text) (h.missed text n).1

module _ {X : Type 0} {item : Reader X} {reading : X → Reading} {none : Text → Type 0} (separator : ℕ) (exact : Exact item reading) (starts : Starts item none) where
  -- the items, as the joins of lists take them: each is allowed
  abbrev items : Items X X
  items = record {
    item = item;
    reading = reading;
    missing = none;
    see = λ x. x;
    allowed = λ x. true;
    wrong = λ x. EmptyItem;
    splits = λ text x taken rest e. (exact.read text x taken rest e).1;
    reads = λ text x taken rest e. record { item = x; read = (exact.read text x taken rest e).0; sees = refl; fine = refl };
    misses = starts.misses;
    found = λ x text rest r f. exact.found text x rest r;
    refused = λ x text rest r f. absurd (true≢false f);
    missed = starts.missed;
  }

  -- the grammar's list
  abbrev listed : List X → Reading
  listed xs = separated separator none (map reading xs)

  -- a list, item by item
  pub exact_list : Exact (λ text. separated_at separator item text) (λ xs. separated separator none (map reading xs))
  exact_list = record { read = there; found = λ text xs rest r. back text xs rest (list_found separator items xs text rest r) }
    where
      there : (text : Text) (xs : List X) (taken rest : Text) → separated_at separator item text ≡ Read xs taken rest → listed xs text rest × (taken ++ rest ≡ text)
      there text xs taken rest e =
          let k = list_read separator items text xs taken rest e in
          (subst (λ z. listed z text rest) (sym (map-id k.items) ∙ k.whole) k.read, splits_separated separator item items.splits text xs taken rest e)

      back : (text : Text) (xs : List X) (rest : Text) → ListFound separator items [] xs text rest (separated_at separator item text) → (taken : Text) × (separated_at separator item text ≡ Read xs taken rest)
      back text xs rest (all_fine f taken e) = (taken, e ∙ ap (λ z. Read z taken rest) (map-id xs))
      back text xs rest (one_stops k) = absurd (true≢false k.at.wrong)

  -- after a list that follows white space no white space is left, whatever follows
  pub loosened : (xs : List X) (next : Reading) (text rest : Text) → white (listed xs ▸ next) text rest → white (listed xs ▹ next) text rest
  loosened xs next text rest (mid, a, b) = (mid, a, subst (λ t. next t rest) (sym (list_tight separator items xs text mid a)) b)

  -- the converse
  pub tightened : (xs : List X) (next : Reading) (text rest : Text) → white (listed xs ▹ next) text rest → white (listed xs ▸ next) text rest
  tightened xs next text rest (mid, a, b) = (mid, a, subst (λ t. next t rest) (list_tight separator items xs text mid a) b)
