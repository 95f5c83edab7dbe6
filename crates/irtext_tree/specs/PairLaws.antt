-- Two grammars obey the law of a grammar as one.
use Rattle.std.proofs.Common.{◌≡◌, ◌<◌, Bool, true, false, cond, List, ◌++◌, length, refl, sym, ◌∙◌, ap, subst, true≢false, codes, inl, inr}
use Rattle.std.specs.Prelude.{◌↔◌, IsTrue}
use Rattle.std.specs.Str.{all_scalars}
use Rattle.irtext_base.specs.Answers.{Outcome, Read, Missing, Bad, mapped}
use Rattle.irtext_base.specs.Families.{is_one_of, AreApart}
use Rattle.irtext_base.specs.Own.{Ends, Sincere, found, missing, verdict}
use Rattle.irtext_base.specs.Text.{Text, begins, front, after_space, begins_word, in_dotted}
use Rattle.irtext_base.proofs.Characters.{or_left, word_tight}
use Rattle.irtext_base.specs.Reading.{keyword}
use Rattle.irtext_base.proofs.Sincere.{of_mapped, of_sincere, sincere_of}
use Rattle.irtext_syntax.specs.PartLaws.{IsRead}
use Rattle.irtext_syntax.specs.PartSteps.{mapped_found, mapped_missing}
use Rattle.irtext_tokens.specs.EitherLaws.{either_sincere}
use Rattle.irtext_tokens.specs.EitherWords.{none_shared, not_one_of, one_of_both, or_right}
use Rattle.irtext_tokens.specs.Eithers.{right, either_at, either_of}
use Rattle.irtext_tokens.specs.Infix.{Reader}
use Rattle.irtext_tokens.specs.declared.either.Either.{Either}
use Rattle.irtext_tokens.specs.declared.either.Either.TheVariants.{Left, Right}
use Rattle.irtext_tree.specs.GrammarLaws.{GrammarLaw, Occurs, begins_tree, waits_after, WaitsFor, Placed, Follows, IfMore, SecondIs}
use Rattle.irtext_tree.specs.Growths.{Growth}
use Rattle.irtext_tree.specs.Pairs.{waits_by, left_place, right_place, same_places, pair_growth, pair_at}
use Rattle.irtext_tree.specs.Words.{HeadsLed, HeadsUnreserved}
use Rattle.irtext_tree.specs.declared.places.Places.{Places}
use Rattle.irtext_tree.specs.declared.places.Places.TheVariants as place
use Rattle.irtext_tree.specs.declared.waits.Waits.{Waits}
use Rattle.irtext_tree.specs.declared.waits.Waits.TheVariants as waits

mapped_read : {X Y : Type 0} (see : X → Y) (o : Outcome X) (y : Y) (taken left : Text) → mapped see o ≡ Read y taken left → (x : X) × (o ≡ Read x taken left) × (see x ≡ y)
mapped_read see (Read x u v) y taken left e =
    let p : (u ≡ taken) × (v ≡ left) = (cc, cc) in
    (x, rw (p.0, p.1) refl, cc)
mapped_read see (Missing cause) y taken left e = absurd (cc)
mapped_read see (Bad cause upto) y taken left e = absurd (cc)

more_by : {S T : Type 0} (see : S → T) (w : Waits S) (P : Type 0) → IfMore w P → IfMore (waits_by see w) P
more_by see waits.Nothing P p = tt
more_by see (waits.One s) P p = p
more_by see (waits.Two s t) P p = p

missed_by : {X : Type 0} (test : Bool) (o p : Outcome X) → verdict o ≡ missing → verdict p ≡ missing → verdict (cond test o p) ≡ missing
missed_by true o p h k = h
missed_by false o p h k = k

module _ {S R L M : Type 0} (gl : Growth S L) (gr : Growth R M) (left_at : S → Reader L) (left_text : L → Text) (right_at : R → Reader M) (right_text : M → Text) (words others : List Text)
    (ll : GrammarLaw gl left_at left_text) (rl : GrammarLaw gr right_at right_text) (led : HeadsLed gl words left_text) (red : HeadsLed gr others right_text) (apart : AreApart words others) where
  abbrev closing : Places S R → Bool
  closing place.Whole = false
  closing (place.Left s) = ll.closing s
  closing (place.Right s) = rl.closing s

  left_closing : (b : Bool) (s : S) → closing (cond b place.Whole (place.Left s)) ≡ true → ll.closing s ≡ true
  left_closing true s e = absurd (true≢false (sym e))
  left_closing false s e = e

  right_closing : (b : Bool) (s : R) → closing (cond b place.Whole (place.Right s)) ≡ true → rl.closing s ≡ true
  right_closing true s e = absurd (true≢false (sym e))
  right_closing false s e = e

  left_closed : (t : S) → ll.closing t ≡ true → (b : Bool) → gl.same gl.start t ≡ b → closing (cond b place.Whole (place.Left t)) ≡ true
  left_closed t k false e = k
  left_closed t k true e = absurd (true≢false (sym k ∙ (ap ll.closing (sym ((ll.decides gl.start t).0 e)) ∙ ll.not_start)))

  right_closed : (t : R) → rl.closing t ≡ true → (b : Bool) → gr.same gr.start t ≡ b → closing (cond b place.Whole (place.Right t)) ≡ true
  right_closed t k false e = k
  right_closed t k true e = absurd (true≢false (sym k ∙ (ap rl.closing (sym ((rl.decides gr.start t).0 e)) ∙ rl.not_start)))

  left_second : (w : Waits S) → SecondIs ll.closing w → SecondIs closing (waits_by (left_place gl gr) w)
  left_second waits.Nothing k = tt
  left_second (waits.One s) k = tt
  left_second (waits.Two s t) k = left_closed t k (gl.same gl.start t) refl

  right_second : (w : Waits R) → SecondIs rl.closing w → SecondIs closing (waits_by (right_place gl gr) w)
  right_second waits.Nothing k = tt
  right_second (waits.One s) k = tt
  right_second (waits.Two s t) k = right_closed t k (gr.same gr.start t) refl

  place_same : (s t : Places S R) → same_places gl gr s t ≡ true → s ≡ t
  place_same place.Whole place.Whole e = refl
  place_same (place.Left s) (place.Left t) e = ap place.Left ((ll.decides s t).0 e)
  place_same (place.Right s) (place.Right t) e = ap place.Right ((rl.decides s t).0 e)
  place_same _ _ e = absurd (true≢false (sym e))

  place_own : (s : Places S R) → same_places gl gr s s ≡ true
  place_own place.Whole = refl
  place_own (place.Left s) = (ll.decides s s).1 refl
  place_own (place.Right s) = (rl.decides s s).1 refl

  abbrev is_whole : Places S R → Bool
  is_whole place.Whole = true
  is_whole _ = false

  left_start : (s : S) (b : Bool) → gl.same gl.start s ≡ b → is_whole (cond b place.Whole (place.Left s)) ≡ true → s ≡ gl.start
  left_start s true e w = sym ((ll.decides gl.start s).0 e)
  left_start s false e w = absurd (true≢false (sym w))

  right_start : (s : R) (b : Bool) → gr.same gr.start s ≡ b → is_whole (cond b place.Whole (place.Right s)) ≡ true → s ≡ gr.start
  right_start s true e w = sym ((rl.decides gr.start s).0 e)
  right_start s false e w = absurd (true≢false (sym w))

  left_leads : (b : Bool) (s : S) (text : Text) → cond (same_places gl gr place.Whole (cond b place.Whole (place.Left s))) (begins begins_word text) true ≡ true → cond b (begins begins_word text) true ≡ true
  left_leads true s text e = e
  left_leads false s text e = refl

  right_leads : (b : Bool) (s : R) (text : Text) → cond (same_places gl gr place.Whole (cond b place.Whole (place.Right s))) (begins begins_word text) true ≡ true → cond b (begins begins_word text) true ≡ true
  right_leads true s text e = e
  right_leads false s text e = refl

  left_follows : (W : Type 0) (w : Waits S) (rest : Text) → Follows (pair_growth gl gr {W = W}) (waits_by (left_place gl gr) w) rest → Follows gl w rest
  left_follows W waits.Nothing rest e = e
  left_follows W (waits.One s) rest e = left_leads (gl.same gl.start s) s rest e
  left_follows W (waits.Two s t) rest e = left_leads (gl.same gl.start s) s rest e

  right_follows : (W : Type 0) (w : Waits R) (rest : Text) → Follows (pair_growth gl gr {W = W}) (waits_by (right_place gl gr) w) rest → Follows gr w rest
  right_follows W waits.Nothing rest e = e
  right_follows W (waits.One s) rest e = right_leads (gr.same gr.start s) s rest e
  right_follows W (waits.Two s t) rest e = right_leads (gr.same gr.start s) s rest e

  left_whole : (s : S) → gl.same gl.start s ≡ true → same_places gl gr place.Whole (left_place gl gr s) ≡ true
  left_whole s e = ap (λ b. same_places gl gr place.Whole (cond b place.Whole (place.Left s))) e

  right_whole : (s : R) → gr.same gr.start s ≡ true → same_places gl gr place.Whole (right_place gl gr s) ≡ true
  right_whole s e = ap (λ b. same_places gl gr place.Whole (cond b place.Whole (place.Right s))) e

  -- a place of one grammar is one at which no tree begins, and occurs there
  left_was : (b : Bool) (s t : S) → gl.same gl.start t ≡ b → ◌≡◌ {A = Places S R} (place.Left s) (cond b place.Whole (place.Left t)) → (gl.same gl.start s ≡ false) × (s ≡ t)
  left_was true s t q e = absurd (cc)
  left_was false s t q e = let p : s ≡ t = cc in (ap (gl.same gl.start) p ∙ q, p)

  left_waits : (s : S) (w : Waits S) → ((t : S) → WaitsFor t w → Occurs gl t) → WaitsFor (place.Left s) (waits_by (left_place gl gr) w) → (gl.same gl.start s ≡ false) × Occurs gl s
  left_waits s waits.Nothing o e = absurd e
  left_waits s (waits.One t) o e = let k = left_was (gl.same gl.start t) s t refl e in (k.0, o s k.1)
  left_waits s (waits.Two t u) o (inl e) = let k = left_was (gl.same gl.start t) s t refl e in (k.0, o s (inl k.1))
  left_waits s (waits.Two t u) o (inr e) = let k = left_was (gl.same gl.start u) s u refl e in (k.0, o s (inr k.1))

  never_right : (b : Bool) (s : S) (t : R) → ◌≡◌ {A = Places S R} (place.Left s) (cond b place.Whole (place.Right t)) → ⊥
  never_right true s t e = absurd (cc)
  never_right false s t e = absurd (cc)

  no_right : (s : S) (w : Waits R) → WaitsFor (place.Left s) (waits_by (right_place gl gr) w) → ⊥
  no_right s waits.Nothing e = e
  no_right s (waits.One t) e = never_right (gr.same gr.start t) s t e
  no_right s (waits.Two t u) (inl e) = never_right (gr.same gr.start t) s t e
  no_right s (waits.Two t u) (inr e) = never_right (gr.same gr.start u) s u e

  right_was : (b : Bool) (s t : R) → gr.same gr.start t ≡ b → ◌≡◌ {A = Places S R} (place.Right s) (cond b place.Whole (place.Right t)) → (gr.same gr.start s ≡ false) × (s ≡ t)
  right_was true s t q e = absurd (cc)
  right_was false s t q e = let p : s ≡ t = cc in (ap (gr.same gr.start) p ∙ q, p)

  right_waits : (s : R) (w : Waits R) → ((t : R) → WaitsFor t w → Occurs gr t) → WaitsFor (place.Right s) (waits_by (right_place gl gr) w) → (gr.same gr.start s ≡ false) × Occurs gr s
  right_waits s waits.Nothing o e = absurd e
  right_waits s (waits.One t) o e = let k = right_was (gr.same gr.start t) s t refl e in (k.0, o s k.1)
  right_waits s (waits.Two t u) o (inl e) = let k = right_was (gr.same gr.start t) s t refl e in (k.0, o s (inl k.1))
  right_waits s (waits.Two t u) o (inr e) = let k = right_was (gr.same gr.start u) s u refl e in (k.0, o s (inr k.1))

  never_left : (b : Bool) (s : R) (t : S) → ◌≡◌ {A = Places S R} (place.Right s) (cond b place.Whole (place.Left t)) → ⊥
  never_left true s t e = absurd (cc)
  never_left false s t e = absurd (cc)

  no_left : (s : R) (w : Waits S) → WaitsFor (place.Right s) (waits_by (left_place gl gr) w) → ⊥
  no_left s waits.Nothing e = e
  no_left s (waits.One t) e = never_left (gl.same gl.start t) s t e
  no_left s (waits.Two t u) (inl e) = never_left (gl.same gl.start t) s t e
  no_left s (waits.Two t u) (inr e) = never_left (gl.same gl.start u) s u e

  left_same : (s t : S) (b : Bool) → gl.same gl.start t ≡ b → gl.same gl.start s ≡ false → gl.same s t ≡ true → same_places gl gr (place.Left s) (cond b place.Whole (place.Left t)) ≡ true
  left_same s t false q n e = e
  left_same s t true q n e = absurd (true≢false (sym q ∙ (ap (gl.same gl.start) (sym ((ll.decides s t).0 e)) ∙ n)))

  right_same : (s t : R) (b : Bool) → gr.same gr.start t ≡ b → gr.same gr.start s ≡ false → gr.same s t ≡ true → same_places gl gr (place.Right s) (cond b place.Whole (place.Right t)) ≡ true
  right_same s t false q n e = e
  right_same s t true q n e = absurd (true≢false (sym q ∙ (ap (gr.same gr.start) (sym ((rl.decides s t).0 e)) ∙ n)))

  module _ {W : Type 0} where
    abbrev growth : Growth (Places S R) (Either L M W)
    growth = pair_growth gl gr

    abbrev at : Places S R → Reader (Either L M W)
    at = pair_at gl gr words left_at right_at

    abbrev text_of : Either L M W → Text
    text_of = either_of left_text right_text

    closes : (h : Either L M W) (rest : Text) → closing (growth.place h) ≡ true → Ends (text_of h ++ rest)
    closes (Left h) rest e = ll.closes h rest (left_closing (gl.same gl.start (gl.place h)) (gl.place h) e)
    closes (Right h p) rest e = rl.closes h rest (right_closing (gr.same gr.start (gr.place h)) (gr.place h) e)

    second : (h : Either L M W) → SecondIs closing (growth.waits h)
    second (Left h) = left_second (gl.waits h) (ll.second h)
    second (Right h p) = right_second (gr.waits h) (rl.second h)

    left_back : (h : L) (rest : Text) → Follows gl (gl.waits h) rest → (b : Bool) → gl.same gl.start (gl.place h) ≡ b → IsRead (at (cond b place.Whole (place.Left (gl.place h)))) (Left h) (left_text h ++ rest) rest
    left_back h rest f false e =
        let k = ll.back h rest f in
        (k.0, mapped_found Left (left_at (gl.place h) (after_space (left_text h ++ rest))) h k.0 k.1, k.2)
    left_back h rest f true e =
        let k = ll.back h rest f in
        let p = (ll.decides gl.start (gl.place h)).0 e in
        let text = left_text h ++ rest in
        let tight = word_tight text (ll.starts h rest (sym p)) in
        let b = ap (λ z. is_one_of words (front in_dotted z)) tight ∙ led h rest (sym p) f in
        let t = after_space text in
        (k.0, ap (λ z. verdict (cond z (mapped {Y = Either L M W} Left (left_at gl.start t)) (mapped right (right_at gr.start t)))) b ∙ mapped_found Left (left_at gl.start t) h k.0 (ap (λ s. verdict (left_at s t)) p ∙ k.1), k.2)

    right_back : (h : M) (rest : Text) → Follows gr (gr.waits h) rest → (b : Bool) → gr.same gr.start (gr.place h) ≡ b → IsRead (at (cond b place.Whole (place.Right (gr.place h)))) (right h) (right_text h ++ rest) rest
    right_back h rest f false e =
        let k = rl.back h rest f in
        (k.0, mapped_found right (right_at (gr.place h) (after_space (right_text h ++ rest))) h k.0 k.1, k.2)
    right_back h rest f true e =
        let k = rl.back h rest f in
        let p = (rl.decides gr.start (gr.place h)).0 e in
        let text = right_text h ++ rest in
        let tight = word_tight text (rl.starts h rest (sym p)) in
        let b = ap (λ z. is_one_of words (front in_dotted z)) tight ∙ not_one_of words others _ (none_shared words others apart) (red h rest (sym p) f) in
        let t = after_space text in
        (k.0, ap (λ z. verdict (cond z (mapped {Y = Either L M W} Left (left_at gl.start t)) (mapped right (right_at gr.start t)))) b ∙ mapped_found right (right_at gr.start t) h k.0 (ap (λ s. verdict (right_at s t)) p ∙ k.1), k.2)

    back : (h : Either L M W) (rest : Text) → Follows growth (growth.waits h) rest → IsRead (at (growth.place h)) h (text_of h ++ rest) rest
    back (Left h) rest f = left_back h rest (left_follows W (gl.waits h) rest f) (gl.same gl.start (gl.place h)) refl
    back (Right h p) rest f = right_back h rest (right_follows W (gr.waits h) rest f) (gr.same gr.start (gr.place h)) refl

    scalars : (h : Either L M W) → all_scalars (text_of h) ≡ true
    scalars (Left h) = ll.scalars h
    scalars (Right h p) = rl.scalars h

    sincere : (s : Places S R) → Sincere (at s)
    sincere place.Whole = either_sincere words (left_at gl.start) (right_at gr.start) (ll.sincere gl.start) (rl.sincere gr.start)
    sincere (place.Left s) = sincere_of (at (place.Left s)) (λ t. of_mapped t Left (left_at s t) (of_sincere (left_at s) (ll.sincere s) t))
    sincere (place.Right s) = sincere_of (at (place.Right s)) (λ t. of_mapped t right (right_at s t) (of_sincere (right_at s) (rl.sincere s) t))

    left_advances : (s : S) (text : Text) (h : Either L M W) (taken left : Text) → mapped Left (left_at s text) ≡ Read h taken left → IfMore (growth.waits h) (length left < length text)
    left_advances s text h taken left e =
        let k = mapped_read Left (left_at s text) h taken left e in
        subst (λ z. IfMore (growth.waits z) (length left < length text)) k.2 (more_by (left_place gl gr) (gl.waits k.0) (length left < length text) (ll.advances s text k.0 taken left k.1))

    right_advances : (s : R) (text : Text) (h : Either L M W) (taken left : Text) → mapped right (right_at s text) ≡ Read h taken left → IfMore (growth.waits h) (length left < length text)
    right_advances s text h taken left e =
        let k = mapped_read right (right_at s text) h taken left e in
        subst (λ z. IfMore (growth.waits z) (length left < length text)) k.2 (more_by (right_place gl gr) (gr.waits k.0) (length left < length text) (rl.advances s text k.0 taken left k.1))

    whole_advances : (b : Bool) (text : Text) (h : Either L M W) (taken left : Text) → cond b (mapped Left (left_at gl.start text)) (mapped right (right_at gr.start text)) ≡ Read h taken left → IfMore (growth.waits h) (length left < length text)
    whole_advances true text h taken left e = left_advances gl.start text h taken left e
    whole_advances false text h taken left e = right_advances gr.start text h taken left e

    advances : (s : Places S R) (text : Text) (h : Either L M W) (taken left : Text) → at s text ≡ Read h taken left → IfMore (growth.waits h) (length left < length text)
    advances place.Whole text h taken left e = whole_advances (is_one_of words (front in_dotted text)) text h taken left e
    advances (place.Left s) text h taken left e = left_advances s text h taken left e
    advances (place.Right s) text h taken left e = right_advances s text h taken left e

    whole_placed : (b : Bool) (text : Text) (h : Either L M W) (taken left : Text) → cond b (mapped Left (left_at gl.start text)) (mapped right (right_at gr.start text)) ≡ Read h taken left → growth.same place.Whole (growth.place h) ≡ true
    whole_placed true text h taken left e =
        let k = mapped_read Left (left_at gl.start text) h taken left e in
        subst (λ z. growth.same place.Whole (growth.place z) ≡ true) k.2 (left_whole (gl.place k.0) (ll.placed gl.start (begins_tree refl) text k.0 taken left k.1))
    whole_placed false text h taken left e =
        let k = mapped_read right (right_at gr.start text) h taken left e in
        subst (λ z. growth.same place.Whole (growth.place z) ≡ true) k.2 (right_whole (gr.place k.0) (rl.placed gr.start (begins_tree refl) text k.0 taken left k.1))

    left_occurs : (s : S) → Occurs growth (place.Left s) → (gl.same gl.start s ≡ false) × Occurs gl s
    left_occurs s (begins_tree e) = absurd (cc)
    left_occurs s (waits_after (Left h) e) = left_waits s (gl.waits h) (λ t k. waits_after h k) e
    left_occurs s (waits_after (Right h p) e) = absurd (no_right s (gr.waits h) e)

    right_occurs : (s : R) → Occurs growth (place.Right s) → (gr.same gr.start s ≡ false) × Occurs gr s
    right_occurs s (begins_tree e) = absurd (cc)
    right_occurs s (waits_after (Left h) e) = absurd (no_left s (gl.waits h) e)
    right_occurs s (waits_after (Right h p) e) = right_waits s (gr.waits h) (λ t k. waits_after h k) e

    placed : (s : Places S R) → Occurs growth s → Placed growth s (at s)
    placed place.Whole o text h taken left e = whole_placed (is_one_of words (front in_dotted text)) text h taken left e
    placed (place.Left s) o text h taken left e =
        let k = mapped_read Left (left_at s text) h taken left e in
        let w = left_occurs s o in
        subst (λ z. growth.same (place.Left s) (growth.place z) ≡ true) k.2 (left_same s (gl.place k.0) (gl.same gl.start (gl.place k.0)) refl w.0 (ll.placed s w.1 text k.0 taken left k.1))
    placed (place.Right s) o text h taken left e =
        let k = mapped_read right (right_at s text) h taken left e in
        let w = right_occurs s o in
        subst (λ z. growth.same (place.Right s) (growth.place z) ≡ true) k.2 (right_same s (gr.place k.0) (gr.same gr.start (gr.place k.0)) refl w.0 (rl.placed s w.1 text k.0 taken left k.1))

    starts : (h : Either L M W) (rest : Text) → growth.place h ≡ place.Whole → begins begins_word (text_of h ++ rest) ≡ true
    starts (Left h) rest e = ll.starts h rest (left_start (gl.place h) (gl.same gl.start (gl.place h)) refl (ap is_whole e))
    starts (Right h p) rest e = rl.starts h rest (right_start (gr.place h) (gr.same gr.start (gr.place h)) refl (ap is_whole e))

    pub pair_law : GrammarLaw growth at text_of
    pair_law = record {
      closing = closing;
      not_start = refl;
      closes = closes;
      second = second;
      decides = λ s t. (place_same s t, λ e. subst (λ z. same_places gl gr s z ≡ true) e (place_own s));
      back = back;
      scalars = scalars;
      sincere = sincere;
      placed = placed;
      advances = advances;
      starts = starts;
      misses = λ text e. missed_by (is_one_of words (front in_dotted text)) _ _ (mapped_missing Left (left_at gl.start text) (ll.misses text e)) (mapped_missing right (right_at gr.start text) (rl.misses text e));
    }

    -- a tree of either begins with one of the words of both
    pub pair_led : HeadsLed growth (words ++ others) text_of
    pair_led (Left h) rest e f =
        one_of_both words others _ ∙ or_left _ _ (led h rest (left_start (gl.place h) (gl.same gl.start (gl.place h)) refl (ap is_whole e)) (left_follows W (gl.waits h) rest f))
    pair_led (Right h p) rest e f =
        one_of_both words others _ ∙ or_right _ _ (red h rest (right_start (gr.place h) (gr.same gr.start (gr.place h)) refl (ap is_whole e)) (right_follows W (gr.waits h) rest f))

    pub pair_unreserved : HeadsUnreserved gl left_text → HeadsUnreserved gr right_text → HeadsUnreserved growth text_of
    pair_unreserved l r = record { given_names = given_names; identifier = identifier }
      where
        given_names : (h : Either L M W) (rest left : Text) → growth.place h ≡ place.Whole → keyword (codes "builtin.given_names") (text_of h ++ rest) left → ⊥
        given_names (Left h) rest left e k = l.given_names h rest left (left_start (gl.place h) (gl.same gl.start (gl.place h)) refl (ap is_whole e)) k
        given_names (Right h p) rest left e k = r.given_names h rest left (right_start (gr.place h) (gr.same gr.start (gr.place h)) refl (ap is_whole e)) k

        identifier : (h : Either L M W) (rest left : Text) → growth.place h ≡ place.Whole → keyword (codes "builtin.identifier") (text_of h ++ rest) left → ⊥
        identifier (Left h) rest left e k = l.identifier h rest left (left_start (gl.place h) (gl.same gl.start (gl.place h)) refl (ap is_whole e)) k
        identifier (Right h p) rest left e k = r.identifier h rest left (right_start (gr.place h) (gr.same gr.start (gr.place h)) refl (ap is_whole e)) k
