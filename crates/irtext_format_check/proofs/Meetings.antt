-- What can follow a list continues it exactly if a character both begins what follows and continues the list.
use Rattle.std.proofs.Common.{◌≡◌, ℕ, zero, suc, Bool, true, false, cond, not, ◌||◌, ◌==◌, List, [], ◌∷◌, ◌++◌, length, refl, sym, ap, ◌∙◌, subst, inl, inr, ⊎_elim, true≢false, arith}
use Rattle.std.specs.Prelude.{codes, ◌⊎◌}
use Rattle.std.proofs.lemmas.Bool.{and_parts, and_from, or_cases, or_left, or_right, not_from_false, false_from_ne_true, eqb-true, eq-eqb}
use Rattle.irtext_base.specs.Text.{begins_word}
use Rattle.irtext_base.specs.Format as format
use Rattle.irtext_base.specs.Format.{Directive, has, is_list, kind, beginnings, continuings, followers, disjoint, c8}
use Rattle.irtext_format_check.specs.Conditions.{C8, WritesList, Begins, GoesOn, MayFollow, ListsAlone, CanFollow}
use Rattle.irtext_format_check.proofs.Conditions.{some_inside, nothing, not_both}

-- ---- kinds of characters
kind_of_word : (c : ℕ) → begins_word c ≡ true → kind c ≡ 95
kind_of_word c e = ap (λ b. cond b 95 c) e

kind_is : (c q : ℕ) → kind c ≡ q → (95 ≡ q → ⊥) → c ≡ q
kind_is c q e n = go (begins_word c) e
  where
    go : (b : Bool) → cond b 95 c ≡ q → c ≡ q
    go true e = absurd (n e)
    go false e = e

kind_is_word : (c : ℕ) → kind c ≡ 95 → begins_word c ≡ true
kind_is_word c e = go (begins_word c) refl e
  where
    go : (b : Bool) → begins_word c ≡ b → cond b 95 c ≡ 95 → begins_word c ≡ true
    go true h e = h
    go false h e = subst (λ z. begins_word z ≡ true) (sym e) refl

-- a list of one or of two
one_of : (q a : ℕ) → has ◌==◌ q (a ∷ []) ≡ true → q ≡ a
one_of q a e = ⊎_elim (λ (h : (q == a) ≡ true). eqb-true q a h) (λ (h : false ≡ true). absurd (true≢false (sym h))) (or_cases (q == a) false e)

two_of : (q a b : ℕ) → has ◌==◌ q (a ∷ b ∷ []) ≡ true → (q ≡ a) ⊎ (q ≡ b)
two_of q a b e = ⊎_elim (λ (h : (q == a) ≡ true). inl (eqb-true q a h)) (λ (h : has ◌==◌ q (b ∷ []) ≡ true). inr (one_of q b h)) (or_cases (q == a) (has ◌==◌ q (b ∷ [])) e)

has_one : (q a : ℕ) → q ≡ a → has ◌==◌ q (a ∷ []) ≡ true
has_one q a e = or_left (q == a) false (eq-eqb q a e)

has_first : (q a b : ℕ) → q ≡ a → has ◌==◌ q (a ∷ b ∷ []) ≡ true
has_first q a b e = or_left (q == a) (has ◌==◌ q (b ∷ [])) (eq-eqb q a e)

has_second : (q a b : ℕ) → q ≡ b → has ◌==◌ q (a ∷ b ∷ []) ≡ true
has_second q a b e = or_right (q == a) (has ◌==◌ q (b ∷ [])) (has_one q b e)

-- ---- what a directive begins with
begin_kind : (d : Directive) (c : ℕ) → Begins d c → has ◌==◌ (kind c) (beginnings d) ≡ true
begin_kind (format.word []) c b = absurd (nothing zero c b)
begin_kind (format.word (x ∷ s)) c b = has_one (kind c) (kind x) (ap kind (sym (some_inside x c b)))
begin_kind (format.operand i) c b = has_one (kind c) 95 (kind_of_word c b)
begin_kind format.operands c b = has_one (kind c) 95 (kind_of_word c b)
begin_kind (format.successor i) c b = has_one (kind c) 94 (ap kind b)
begin_kind format.successors c b = has_one (kind c) 94 (ap kind b)
begin_kind (format.attribute k) c (inl b) = has_first (kind c) 95 33 (kind_of_word c b)
begin_kind (format.attribute k) c (inr b) = has_second (kind c) 95 33 (ap kind b)
begin_kind format.dictionary c b = has_one (kind c) 91 (ap kind b)
begin_kind (format.result_type i) c b = has_one (kind c) 95 (kind_of_word c b)
begin_kind (format.region i) c b = has_one (kind c) 123 (ap kind b)
begin_kind format.regions c b = has_one (kind c) 123 (ap kind b)
begin_kind format.header c b = has_one (kind c) 64 (ap kind b)

kind_begin : (d : Directive) (q : ℕ) → has ◌==◌ q (beginnings d) ≡ true → (c : ℕ) × (kind c ≡ q) × Begins d c
kind_begin (format.word []) q e = absurd (true≢false (sym e))
kind_begin (format.word (x ∷ s)) q e = (x, sym (one_of q (kind x) e), refl)
kind_begin (format.operand i) q e = (95, sym (one_of q 95 e), refl)
kind_begin format.operands q e = (95, sym (one_of q 95 e), refl)
kind_begin (format.successor i) q e = (94, sym (one_of q 94 e), refl)
kind_begin format.successors q e = (94, sym (one_of q 94 e), refl)
kind_begin (format.attribute k) q e = ⊎_elim (λ (h : q ≡ 95). (95, sym h, inl refl)) (λ (h : q ≡ 33). (33, sym h, inr refl)) (two_of q 95 33 e)
kind_begin format.dictionary q e = (91, sym (one_of q 91 e), refl)
kind_begin (format.result_type i) q e = (95, sym (one_of q 95 e), refl)
kind_begin (format.region i) q e = (123, sym (one_of q 123 e), refl)
kind_begin format.regions q e = (123, sym (one_of q 123 e), refl)
kind_begin format.header q e = (64, sym (one_of q 64 e), refl)

-- ---- what continues a list
goes_kind : (d : Directive) (c : ℕ) → GoesOn d c → has ◌==◌ (kind c) (continuings d) ≡ true
goes_kind format.operands c (inl g) = has_first (kind c) 95 44 (kind_of_word c g)
goes_kind format.operands c (inr g) = has_second (kind c) 95 44 (ap kind g)
goes_kind format.successors c (inl g) = has_first (kind c) 94 44 (ap kind g)
goes_kind format.successors c (inr g) = has_second (kind c) 94 44 (ap kind g)
goes_kind format.regions c g = has_one (kind c) 123 (ap kind g)
goes_kind _ c g = absurd g

kind_goes : (d : Directive) (c : ℕ) → has ◌==◌ (kind c) (continuings d) ≡ true → GoesOn d c
kind_goes format.operands c e =
    ⊎_elim (λ (h : kind c ≡ 95). inl (kind_is_word c h)) (λ (h : kind c ≡ 44). inr (kind_is c 44 h (λ n. omega (arith, n)))) (two_of (kind c) 95 44 e)
kind_goes format.successors c e =
    ⊎_elim (λ (h : kind c ≡ 94). inl (kind_is c 94 h (λ n. omega (arith, n)))) (λ (h : kind c ≡ 44). inr (kind_is c 44 h (λ n. omega (arith, n)))) (two_of (kind c) 94 44 e)
kind_goes format.regions c e = kind_is c 123 (one_of (kind c) 123 e) (λ n. omega (arith, n))
kind_goes _ c e = absurd (true≢false (sym e))

-- ---- what can follow
lists : (d : Directive) → WritesList d → is_list d ≡ true
lists format.operands w = refl
lists format.successors w = refl
lists format.regions w = refl
lists _ w = absurd w

writes_list : (d : Directive) → is_list d ≡ true → WritesList d
writes_list format.operands e = tt
writes_list format.successors e = tt
writes_list format.regions e = tt
writes_list _ e = absurd (true≢false (sym e))

or_both : (a b c : Bool) → ((a || b) || c) ≡ (a || (b || c))
or_both true b c = refl
or_both false b c = refl

has_both : (q : ℕ) (ys zs : List ℕ) → (has ◌==◌ q ys || has ◌==◌ q zs) ≡ has ◌==◌ q (ys ++ zs)
has_both q [] zs = refl
has_both q (y ∷ ys) zs = or_both (q == y) (has ◌==◌ q ys) (has ◌==◌ q zs) ∙ ap (λ b. (q == y) || b) (has_both q ys zs)

-- the list of what follows, one directive on
follow_first : (q : ℕ) (d : Directive) (ds : List Directive) → has ◌==◌ q (beginnings d) ≡ true → has ◌==◌ q (followers (d ∷ ds)) ≡ true
follow_first q d ds e =
    let rest = cond (is_list d) (followers ds) [] in
    sym (has_both q (beginnings d) rest) ∙ or_left (has ◌==◌ q (beginnings d)) (has ◌==◌ q rest) e

follow_rest : (q : ℕ) (d : Directive) (ds : List Directive) → is_list d ≡ true → has ◌==◌ q (followers ds) ≡ true → has ◌==◌ q (followers (d ∷ ds)) ≡ true
follow_rest q d ds l e =
    let rest = cond (is_list d) (followers ds) [] in
    let r : has ◌==◌ q rest ≡ true = ap (λ b. has ◌==◌ q (cond b (followers ds) [])) l ∙ e in
    sym (has_both q (beginnings d) rest) ∙ or_right (has ◌==◌ q (beginnings d)) (has ◌==◌ q rest) r

follow_kind : (ds : List Directive) (c : ℕ) → CanFollow ds c → has ◌==◌ (kind c) (followers ds) ≡ true
follow_kind [] c (inl f) = absurd (nothing f.0 f.1 f.2)
follow_kind [] c (inr f) = ends f.1
  where
    ends : MayFollow c → has ◌==◌ (kind c) (codes "!;}^") ≡ true
    ends (inl e) = subst (λ z. has ◌==◌ (kind z) (codes "!;}^") ≡ true) (sym e) refl
    ends (inr (inl e)) = subst (λ z. has ◌==◌ (kind z) (codes "!;}^") ≡ true) (sym e) refl
    ends (inr (inr (inl e))) = subst (λ z. has ◌==◌ (kind z) (codes "!;}^") ≡ true) (sym e) refl
    ends (inr (inr (inr e))) = subst (λ z. has ◌==◌ (kind z) (codes "!;}^") ≡ true) (sym e) refl
follow_kind (d ∷ ds) c (inl (zero, e, h, l, b)) = follow_first (kind c) d ds (begin_kind d c (subst (λ z. Begins z c) (sym (some_inside d e h)) b))
follow_kind (d ∷ ds) c (inl (suc j, e, h, l, b)) =
    follow_rest (kind c) d ds (lists d (l zero d (omega arith) refl)) (follow_kind ds c (inl (j, e, h, (λ m x k g. l (suc m) x (omega (arith, k)) g), b)))
follow_kind (d ∷ ds) c (inr (l, b)) =
    follow_rest (kind c) d ds (lists d (l zero d (omega arith) refl)) (follow_kind ds c (inr ((λ m x k g. l (suc m) x (omega (arith, k)) g), b)))

-- only lists precede, one directive further on
alone_more : (d : Directive) (ds : List Directive) (j : ℕ) → WritesList d → ListsAlone j ds → ListsAlone (suc j) (d ∷ ds)
alone_more d ds j w l zero x k h = subst (λ z. WritesList z) (some_inside d x h) w
alone_more d ds j w l (suc m) x k h = l m x (omega (arith, k)) h

follow_more : (d : Directive) (ds : List Directive) (c : ℕ) → WritesList d → CanFollow ds c → CanFollow (d ∷ ds) c
follow_more d ds c w (inl f) = inl (suc f.0, f.1, f.2, alone_more d ds f.0 w f.3, f.4)
follow_more d ds c w (inr f) = inr (alone_more d ds (length ds) w f.0, f.1)

kind_follow : (ds : List Directive) (q : ℕ) → has ◌==◌ q (followers ds) ≡ true → (c : ℕ) × (kind c ≡ q) × CanFollow ds c
kind_follow [] q e = go (or_cases (q == 33) (has ◌==◌ q (codes ";}^")) e)
  where
    none : ListsAlone 0 []
    none m d k h = absurd (omega (arith, k))

    end : (c : ℕ) → q ≡ c → kind c ≡ c → MayFollow c → (c : ℕ) × (kind c ≡ q) × CanFollow [] c
    end c h k b = (c, k ∙ sym h, inr (none, b))

    last : ((q == 125) ≡ true) ⊎ (has ◌==◌ q (codes "^") ≡ true) → (c : ℕ) × (kind c ≡ q) × CanFollow [] c
    last (inl h) = end 125 (eqb-true q 125 h) refl (inr (inr (inl refl)))
    last (inr h) = end 94 (one_of q 94 h) refl (inr (inr (inr refl)))

    next : ((q == 59) ≡ true) ⊎ (has ◌==◌ q (codes "}^") ≡ true) → (c : ℕ) × (kind c ≡ q) × CanFollow [] c
    next (inl h) = end 59 (eqb-true q 59 h) refl (inr (inl refl))
    next (inr h) = last (or_cases (q == 125) (has ◌==◌ q (codes "^")) h)

    go : ((q == 33) ≡ true) ⊎ (has ◌==◌ q (codes ";}^") ≡ true) → (c : ℕ) × (kind c ≡ q) × CanFollow [] c
    go (inl h) = end 33 (eqb-true q 33 h) refl (inl refl)
    go (inr h) = next (or_cases (q == 59) (has ◌==◌ q (codes "}^")) h)
kind_follow (d ∷ ds) q e = go (or_cases (has ◌==◌ q (beginnings d)) (has ◌==◌ q (cond (is_list d) (followers ds) [])) (has_both q (beginnings d) (cond (is_list d) (followers ds) []) ∙ e)) (kind_follow ds q)
  where
    listed : (b : Bool) → is_list d ≡ b → has ◌==◌ q (cond b (followers ds) []) ≡ true → (has ◌==◌ q (followers ds) ≡ true → (c : ℕ) × (kind c ≡ q) × CanFollow ds c) → (c : ℕ) × (kind c ≡ q) × CanFollow (d ∷ ds) c
    listed true l h f = let r = f h in (r.0, r.1, follow_more d ds r.0 (writes_list d l) r.2)
    listed false l h f = absurd (true≢false (sym h))

    go : (has ◌==◌ q (beginnings d) ≡ true) ⊎ (has ◌==◌ q (cond (is_list d) (followers ds) []) ≡ true) → (has ◌==◌ q (followers ds) ≡ true → (c : ℕ) × (kind c ≡ q) × CanFollow ds c) → (c : ℕ) × (kind c ≡ q) × CanFollow (d ∷ ds) c
    go (inl h) f = let r = kind_begin d q h in (r.0, r.1, inl (0, d, refl, (λ m x k g. absurd (omega (arith, k))), r.2))
    go (inr h) f = listed (is_list d) refl h f

-- ---- C8
apart : (cs ds : List ℕ) → disjoint cs ds ≡ true → (q : ℕ) → has ◌==◌ q cs ≡ true → has ◌==◌ q ds ≡ true → ⊥
apart [] ds e q h k = true≢false (sym h)
apart (c ∷ cs) ds e q h k =
    let p = and_parts (not (has ◌==◌ c ds)) (disjoint cs ds) e in
    ⊎_elim (λ (m : (q == c) ≡ true). not_both (has ◌==◌ c ds) (subst (λ z. has ◌==◌ z ds ≡ true) (eqb-true q c m) k) p.0) (λ (m : has ◌==◌ q cs ≡ true). apart cs ds p.1 q m k) (or_cases (q == c) (has ◌==◌ q cs) h)

parted : (cs ds : List ℕ) → ((q : ℕ) → has ◌==◌ q cs ≡ true → has ◌==◌ q ds ≡ true → ⊥) → disjoint cs ds ≡ true
parted [] ds f = refl
parted (c ∷ cs) ds f =
    and_from (not (has ◌==◌ c ds)) (disjoint cs ds) (not_from_false (has ◌==◌ c ds) (false_from_ne_true (has ◌==◌ c ds) (λ k. f c (or_left (c == c) (has ◌==◌ c cs) (eq-eqb c c refl)) k)))
    (parted cs ds (λ q h k. f q (or_right (q == c) (has ◌==◌ q cs) h) k))

pub c8_says : (ds : List Directive) → c8 ds ≡ true → C8 ds
c8_says [] e i d c h g f = nothing i d h
c8_says (x ∷ ds) e zero d c h g f =
    let p = and_parts (disjoint (continuings x) (followers ds)) (c8 ds) e in
    apart (continuings x) (followers ds) p.0 (kind c) (goes_kind x c (subst (λ z. GoesOn z c) (sym (some_inside x d h)) g)) (follow_kind ds c f)
c8_says (x ∷ ds) e (suc i) d c h g f = c8_says ds ((and_parts (disjoint (continuings x) (followers ds)) (c8 ds) e).1) i d c h g f

pub says_c8 : (ds : List Directive) → C8 ds → c8 ds ≡ true
says_c8 [] f = refl
says_c8 (x ∷ ds) f =
    and_from (disjoint (continuings x) (followers ds)) (c8 ds)
    (parted (continuings x) (followers ds) (λ q h k. let r = kind_follow ds q k in f zero x r.0 refl (kind_goes x r.0 (subst (λ z. has ◌==◌ z (continuings x) ≡ true) (sym r.1) h)) r.2))
    (says_c8 ds (λ i d c h g k. f (suc i) d c h g k))
