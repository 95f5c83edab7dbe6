-- Tests that decide whether two values look alike, and what they decide of the values' parts.
use Rattle.std.proofs.Common.{◌≡◌, ◌∙◌, ◌==◌, ◌&&◌, ap, ap₂, refl, sym, ℕ, Bool, false, true≢false, Option, Some, None, List}
use Rattle.std.proofs.lemmas.Bool.Decides.{Decides-and, Decides-at, Decides-like, Decides-eqb, Decides-int_eq}
use Rattle.std.proofs.lemmas.Slice.Eq.{bytes_eq-Decides, slice_eq-Decides}
use Rattle.std.specs.Bool.{Decides}
use Rattle.std.specs.Option.{option_eq}
use Rattle.std.specs.Ordering.{int_eq}
use Rattle.std.specs.Str.{bytes_eq}
use lib.Pointwise.{pointwise}
use Rattle.irtext_base.specs.Locations.{AttrView, given_names, ident, own, LocationView, LocationViews, src_pos, fused, named, call_site, unknown, no_location, location, same_source}
use Rattle.irtext_base.specs.SameLocations.{same_position, same_attr, same_view, same_rows}
use Rattle.irtext_base.specs.declared.location.Source.{Source}
use Rattle.irtext_base.specs.declared.location.Source.TheVariants.{File, InMemory}
use Rattle.irtext_stream.specs.declared.position.SourcePosition.{SourcePosition}

-- the same test of what is equal to two values
pub turned : {X : Type 0} (r t : Bool) {v w x y : X} → r ≡ t → v ≡ x → w ≡ y → Decides t (x ≡ y) → Decides r (v ≡ w)
turned r t e p q d = Decides-like r (λ h. p ∙ (h ∙ sym q)) (λ h. sym p ∙ (h ∙ q)) (Decides-at r t e d)

-- two that differ are not equal
pub never : {X : Type 0} {v w : X} → (v ≡ w → ⊥) → Decides false (v ≡ w)
never h = (λ e. absurd (true≢false (sym e)), λ e. absurd (h e))

-- two parts are equal where what is made of them is
pub both : {X Y Z : Type 0} (f : X → Y → Z) → ((a c : X) (b d : Y) → f a b ≡ f c d → (a ≡ c) × (b ≡ d)) → (r s : Bool) (a c : X) (b d : Y) → Decides r (a ≡ c) → Decides s (b ≡ d) → Decides (r && s) (f a b ≡ f c d)
both f inside r s a c b d h k = Decides-like (r && s) (λ (e : (a ≡ c) × (b ≡ d)). ap₂ f e.0 e.1) (λ e. inside a c b d e) (Decides-and r s h k)

-- the one part is equal where what is made of it is
pub same_inside : {X Z : Type 0} (f : X → Z) → ((a c : X) → f a ≡ f c → a ≡ c) → (r : Bool) (a c : X) → Decides r (a ≡ c) → Decides r (f a ≡ f c)
same_inside f inside r a c h = Decides-like r (λ e. ap f e) (λ e. inside a c e) h

module _ {X Y : Type 0} (E : X → X → Bool) (see : X → Y) (decides : (x y : X) → Decides (E x y) (see x ≡ see y)) where
  pub option_decides : (seen : Option X → Option Y) → seen None ≡ None → ((x : X) → seen (Some x) ≡ Some (see x)) → (a b : Option X) → Decides (option_eq E a b) (seen a ≡ seen b)
  option_decides seen n s None None = (λ _. refl, λ _. refl)
  option_decides seen n s None (Some y) = turned false false refl n (s y) (never (λ e. cc))
  option_decides seen n s (Some x) None = turned false false refl (s x) n (never (λ e. cc))
  option_decides seen n s (Some x) (Some y) = turned (E x y) (E x y) refl (s x) (s y) (same_inside Some (λ a c e. cc) (E x y) (see x) (see y) (decides x y))

pub options_decide : {X : Type 0} (E : X → X → Bool) → ((x y : X) → Decides (E x y) (x ≡ y)) → (a b : Option X) → Decides (option_eq E a b) (a ≡ b)
options_decide E decides = option_decides E (λ x. x) decides (λ o. o) refl (λ x. refl)

abbrev index_of : Source → ℕ
index_of (File key) = key.index
index_of InMemory = 0

pub source_decides : (s t : Source) → Decides (same_source s t) (s ≡ t)
source_decides (File k) (File j) = same_inside (λ i. File (record { index = i })) (λ a c e. ap index_of e) (k.index == j.index) k.index j.index (Decides-eqb k.index j.index)
source_decides (File k) InMemory = never (λ e. cc)
source_decides InMemory (File j) = never (λ e. cc)
source_decides InMemory InMemory = (λ _. refl, λ _. refl)

pub position_decides : (p q : SourcePosition) → Decides (int_eq p.line q.line && int_eq p.column q.column) (p ≡ q)
position_decides p q =
    both (λ line column. let at : SourcePosition = record { line = line; column = column } in at) (λ a c b d e. (ap (λ (x : SourcePosition). x.line) e, ap (λ (x : SourcePosition). x.column) e))
    (int_eq p.line q.line) (int_eq p.column q.column) p.line q.line p.column q.column (Decides-int_eq p.line q.line) (Decides-int_eq p.column q.column)

-- the number of a location's kind
abbrev pub kind : {A : Type 0} → LocationView A → ℕ
kind (src_pos src pos) = 0
kind (fused metadata locations) = 1
kind (named name child) = 2
kind (call_site callee caller) = 3
kind unknown = 4

-- locations of two kinds are not equal
pub kinds_differ : {A : Type 0} (v w : LocationView A) → (kind v == kind w) ≡ false → Decides false (v ≡ w)
kinds_differ v w h = never (λ e. absurd (true≢false (sym ((Decides-eqb (kind v) (kind w)).1 (ap kind e)) ∙ h)))

module _ {A : Type 0} where
  abbrev place : Source → SourcePosition → LocationView A
  place src pos = src_pos src pos

  pub places_decide : (r t : Bool) (a c : Source) (b d : SourcePosition) → Decides r (a ≡ c) → Decides t (b ≡ d) → Decides (r && t) (place a b ≡ place c d)
  places_decide = both place (λ a c b d e. (cc, cc))

  pub fused_decide : (r t : Bool) (a c : Option (AttrView A)) (b d : LocationViews A) → Decides r (a ≡ c) → Decides t (b ≡ d) → Decides (r && t) (fused a b ≡ fused c d)
  fused_decide = both (λ (a : Option (AttrView A)) b. let l : LocationView A = fused a b in l) (λ a c b d e. (cc, cc))

  pub named_decide : (r t : Bool) (a c : List ℕ) (b d : LocationView A) → Decides r (a ≡ c) → Decides t (b ≡ d) → Decides (r && t) (named a b ≡ named c d)
  named_decide = both (λ (a : List ℕ) b. let l : LocationView A = named a b in l) (λ a c b d e. (cc, cc))

  pub calls_decide : (r t : Bool) (a c b d : LocationView A) → Decides r (a ≡ c) → Decides t (b ≡ d) → Decides (r && t) (call_site a b ≡ call_site c d)
  calls_decide = λ r t a c b d. both (λ (a : LocationView A) b. let l : LocationView A = call_site a b in l) (λ a c b d e. (cc, cc)) r t a c b d

module _ {A : Type 0} (E : A → A → Bool) (decides : (a b : A) → Decides (E a b) (a ≡ b)) where
  attr_decides : (x y : AttrView A) → Decides (same_attr E x y) (x ≡ y)
  attr_decides (given_names a) (given_names b) = same_inside given_names (λ v w e. cc) (pointwise (option_eq bytes_eq) a b) a b (slice_eq-Decides (options_decide bytes_eq bytes_eq-Decides) a b _ refl)
  attr_decides (given_names a) (ident b) = never (λ e. cc)
  attr_decides (given_names a) (own b) = never (λ e. cc)
  attr_decides (ident a) (given_names b) = never (λ e. cc)
  attr_decides (ident a) (ident b) = same_inside ident (λ v w e. cc) (bytes_eq a b) a b (bytes_eq-Decides a b)
  attr_decides (ident a) (own b) = never (λ e. cc)
  attr_decides (own a) (given_names b) = never (λ e. cc)
  attr_decides (own a) (ident b) = never (λ e. cc)
  attr_decides (own a) (own b) = same_inside own (λ v w e. cc) (E a b) a b (decides a b)

  mutual
    -- two locations are equal exactly where they look alike
    pub view_decides : (v w : LocationView A) → Decides (same_view E v w) (v ≡ w)
    view_decides (src_pos s p) (src_pos t q) = places_decide (same_source s t) (same_position p q) s t p q (source_decides s t) (position_decides p q)
    view_decides (fused m ls) (fused n ks) = fused_decide (option_eq (same_attr E) m n) (same_rows E ls ks) m n ls ks (options_decide (same_attr E) attr_decides m n) (rows_decide ls ks)
    view_decides (named a l) (named b k) = named_decide (bytes_eq a b) (same_view E l k) a b l k (bytes_eq-Decides a b) (view_decides l k)
    view_decides (call_site a b) (call_site c d) = calls_decide (same_view E a c) (same_view E b d) a c b d (view_decides a c) (view_decides b d)
    view_decides unknown unknown = (λ _. refl, λ _. refl)
    view_decides v w = kinds_differ v w refl

    rows_decide : (ls ks : LocationViews A) → Decides (same_rows E ls ks) (ls ≡ ks)
    rows_decide no_location no_location = (λ _. refl, λ _. refl)
    rows_decide no_location (location k ks) = never (λ e. cc)
    rows_decide (location l ls) no_location = never (λ e. cc)
    rows_decide (location l ls) (location k ks) = both location (λ a c b d e. (cc, cc)) (same_view E l k) (same_rows E ls ks) l k ls ks (view_decides l k) (rows_decide ls ks)
