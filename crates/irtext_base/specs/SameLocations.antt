-- When two locations are equal, and what the `Hash` of one feeds a hasher, given the same for the caller's attributes; and the proofs that
-- this is an equivalence and that equal locations feed the same.
use Rattle.std.specs.Prelude.{◌≡◌, ℕ, suc, Bool, true, false, ◌&&◌, Option, Some, None, List, [], ◌++◌, pos, refl}
use Rattle.std.proofs.Common.{ap, ap₂, sym, true≢false}
use Rattle.std.specs.Cmp.{IsPartialEquivalence, IsEquivalence, partial_equiv_from_equiv, equiv, first_so, second_so, nat_eq_equiv, int_eq_equiv, unsigned_Decides, signed_Decides}
use Rattle.std.specs.Cmp.Lexicographic.{pointwise, bytes_decides, nat_list_eq_equiv, lists_equiv, options_equiv}
use Rattle.std.specs.Hash as fed
use Rattle.std.specs.Hash.{HashWrites}
use Rattle.std.specs.Option.{option_eq}
use Rattle.std.specs.Ordering.{int_eq}
use Rattle.std.specs.Str.{bytes_eq}
use Rattle.irtext_stream.specs.declared.position.SourcePosition.{SourcePosition}
use Rattle.irtext_base.specs.declared.location.Source.{Source}
use Rattle.irtext_base.specs.declared.location.Source.TheVariants.{File, InMemory}
use Rattle.irtext_base.specs.Locations.{AttrView, given_names, ident, own, LocationView, LocationViews, src_pos, fused, named, call_site, unknown, no_location, location, same_source}
use Rattle.irtext_base.specs.StableHash.{position_writes, attr_writes, row_len}

-- the two positions are the same
abbrev pub same_position : SourcePosition → SourcePosition → Bool
same_position p q = int_eq p.line q.line && int_eq p.column q.column

module _ {A : Type 0} (E : A → A → Bool) where
  -- the two attributes are equal
  abbrev pub same_attr : AttrView A → AttrView A → Bool
  same_attr (given_names a) (given_names b) = pointwise (option_eq bytes_eq) a b
  same_attr (ident a) (ident b) = bytes_eq a b
  same_attr (own a) (own b) = E a b
  same_attr _ _ = false

  abbrev mutual
    -- the two locations are equal
    pub same_view : LocationView A → LocationView A → Bool
    same_view (src_pos s p) (src_pos t q) = same_source s t && same_position p q
    same_view (fused m ls) (fused n ks) = option_eq same_attr m n && same_rows ls ks
    same_view (named a l) (named b k) = bytes_eq a b && same_view l k
    same_view (call_site a b) (call_site c d) = same_view a c && same_view b d
    same_view unknown unknown = true
    same_view _ _ = false

    -- the two rows have the same length and are equal element by element
    pub same_rows : LocationViews A → LocationViews A → Bool
    same_rows no_location no_location = true
    same_rows (location l ls) (location k ks) = same_view l k && same_rows ls ks
    same_rows _ _ = false

source_symm : (s t : Source) → same_source s t ≡ same_source t s
source_symm (File k) (File j) = nat_eq_equiv.symm k.index j.index
source_symm (File k) InMemory = refl
source_symm InMemory (File j) = refl
source_symm InMemory InMemory = refl

source_trans : (s t u : Source) → same_source s t ≡ true → same_source t u ≡ true → same_source s u ≡ true
source_trans (File k) (File j) (File i) h g = (partial_equiv_from_equiv nat_eq_equiv).trans k.index j.index i.index h g
source_trans (File k) (File j) InMemory h g = g
source_trans (File k) InMemory u h g = absurd (true≢false (sym h))
source_trans InMemory (File j) u h g = absurd (true≢false (sym h))
source_trans InMemory InMemory u h g = g

source_itself : (s : Source) → same_source s s ≡ true
source_itself (File k) = nat_eq_equiv.refl k.index
source_itself InMemory = refl

position_symm : (p q : SourcePosition) → same_position p q ≡ same_position q p
position_symm p q = ap₂ ◌&&◌ (int_eq_equiv.symm p.line q.line) (int_eq_equiv.symm p.column q.column)

both_so : (b c : Bool) → b ≡ true → c ≡ true → (b && c) ≡ true
both_so b c h g = ap₂ ◌&&◌ h g

position_trans : (p q r : SourcePosition) → same_position p q ≡ true → same_position q r ≡ true → same_position p r ≡ true
position_trans p q r h g =
    let int = partial_equiv_from_equiv int_eq_equiv in
    both_so (int_eq p.line r.line) (int_eq p.column r.column)
    (int.trans p.line q.line r.line (first_so (int_eq p.line q.line) (int_eq p.column q.column) h) (first_so (int_eq q.line r.line) (int_eq q.column r.column) g))
    (int.trans p.column q.column r.column (second_so (int_eq p.line q.line) (int_eq p.column q.column) h) (second_so (int_eq q.line r.line) (int_eq q.column r.column) g))

position_itself : (p : SourcePosition) → same_position p p ≡ true
position_itself p = both_so (int_eq p.line p.line) (int_eq p.column p.column) (int_eq_equiv.refl p.line) (int_eq_equiv.refl p.column)

names_equiv : IsEquivalence (pointwise (option_eq bytes_eq))
names_equiv = lists_equiv (options_equiv nat_list_eq_equiv)

module _ {X : Type 0} (D : X → X → Bool) where
  option_symm : ((x y : X) → D x y ≡ D y x) → (m n : Option X) → option_eq D m n ≡ option_eq D n m
  option_symm s None None = refl
  option_symm s None (Some y) = refl
  option_symm s (Some x) None = refl
  option_symm s (Some x) (Some y) = s x y

  option_trans : ((x y z : X) → D x y ≡ true → D y z ≡ true → D x z ≡ true) → (m n o : Option X) → option_eq D m n ≡ true → option_eq D n o ≡ true → option_eq D m o ≡ true
  option_trans t None None o h g = g
  option_trans t None (Some y) o h g = absurd (true≢false (sym h))
  option_trans t (Some x) None o h g = absurd (true≢false (sym h))
  option_trans t (Some x) (Some y) None h g = g
  option_trans t (Some x) (Some y) (Some z) h g = t x y z h g

  option_itself : ((x : X) → D x x ≡ true) → (m : Option X) → option_eq D m m ≡ true
  option_itself r None = refl
  option_itself r (Some x) = r x

module _ {A : Type 0} (E : A → A → Bool) (p : IsPartialEquivalence E) where
  attr_symm : (a b : AttrView A) → same_attr E a b ≡ same_attr E b a
  attr_symm (given_names a) (given_names b) = names_equiv.symm a b
  attr_symm (ident a) (ident b) = nat_list_eq_equiv.symm a b
  attr_symm (own a) (own b) = p.symm a b
  attr_symm a b = refl

  attr_trans : (a b c : AttrView A) → same_attr E a b ≡ true → same_attr E b c ≡ true → same_attr E a c ≡ true
  attr_trans (given_names a) (given_names b) (given_names c) h g = (partial_equiv_from_equiv names_equiv).trans a b c h g
  attr_trans (given_names a) (given_names b) (ident c) h g = g
  attr_trans (given_names a) (given_names b) (own c) h g = g
  attr_trans (given_names a) (ident b) c h g = absurd (true≢false (sym h))
  attr_trans (given_names a) (own b) c h g = absurd (true≢false (sym h))
  attr_trans (ident a) (given_names b) c h g = absurd (true≢false (sym h))
  attr_trans (ident a) (ident b) (given_names c) h g = g
  attr_trans (ident a) (ident b) (ident c) h g = (partial_equiv_from_equiv nat_list_eq_equiv).trans a b c h g
  attr_trans (ident a) (ident b) (own c) h g = g
  attr_trans (ident a) (own b) c h g = absurd (true≢false (sym h))
  attr_trans (own a) (given_names b) c h g = absurd (true≢false (sym h))
  attr_trans (own a) (ident b) c h g = absurd (true≢false (sym h))
  attr_trans (own a) (own b) (given_names c) h g = g
  attr_trans (own a) (own b) (ident c) h g = g
  attr_trans (own a) (own b) (own c) h g = p.trans a b c h g

  mutual
    view_symm : (k l : LocationView A) → same_view E k l ≡ same_view E l k
    view_symm (src_pos s p) (src_pos t q) = ap₂ ◌&&◌ (source_symm s t) (position_symm p q)
    view_symm (fused m ls) (fused n ks) = ap₂ ◌&&◌ (option_symm (same_attr E) attr_symm m n) (rows_symm ls ks)
    view_symm (named a l) (named b k) = ap₂ ◌&&◌ (nat_list_eq_equiv.symm a b) (view_symm l k)
    view_symm (call_site a b) (call_site c d) = ap₂ ◌&&◌ (view_symm a c) (view_symm b d)
    view_symm unknown unknown = refl
    view_symm k l = refl

    rows_symm : (ls ks : LocationViews A) → same_rows E ls ks ≡ same_rows E ks ls
    rows_symm no_location no_location = refl
    rows_symm no_location (location k ks) = refl
    rows_symm (location l ls) no_location = refl
    rows_symm (location l ls) (location k ks) = ap₂ ◌&&◌ (view_symm l k) (rows_symm ls ks)

  mutual
    view_trans : (k l m : LocationView A) → same_view E k l ≡ true → same_view E l m ≡ true → same_view E k m ≡ true
    view_trans (src_pos a1 b1) (src_pos a2 b2) (src_pos a3 b3) h g =
        both_so (same_source a1 a3) (same_position b1 b3)
        (source_trans a1 a2 a3 (first_so (same_source a1 a2) (same_position b1 b2) h) (first_so (same_source a2 a3) (same_position b2 b3) g))
        (position_trans b1 b2 b3 (second_so (same_source a1 a2) (same_position b1 b2) h) (second_so (same_source a2 a3) (same_position b2 b3) g))
    view_trans (src_pos a1 b1) (src_pos a2 b2) (fused a3 b3) h g = g
    view_trans (src_pos a1 b1) (src_pos a2 b2) (named a3 b3) h g = g
    view_trans (src_pos a1 b1) (src_pos a2 b2) (call_site a3 b3) h g = g
    view_trans (src_pos a1 b1) (src_pos a2 b2) unknown h g = g
    view_trans (src_pos a1 b1) (fused a2 b2) m h g = absurd (true≢false (sym h))
    view_trans (src_pos a1 b1) (named a2 b2) m h g = absurd (true≢false (sym h))
    view_trans (src_pos a1 b1) (call_site a2 b2) m h g = absurd (true≢false (sym h))
    view_trans (src_pos a1 b1) unknown m h g = absurd (true≢false (sym h))
    view_trans (fused a1 b1) (src_pos a2 b2) m h g = absurd (true≢false (sym h))
    view_trans (fused a1 b1) (fused a2 b2) (src_pos a3 b3) h g = g
    view_trans (fused a1 b1) (fused a2 b2) (fused a3 b3) h g =
        both_so (option_eq (same_attr E) a1 a3) (same_rows E b1 b3)
        (option_trans (same_attr E) attr_trans a1 a2 a3 (first_so (option_eq (same_attr E) a1 a2) (same_rows E b1 b2) h) (first_so (option_eq (same_attr E) a2 a3) (same_rows E b2 b3) g))
        (rows_trans b1 b2 b3 (second_so (option_eq (same_attr E) a1 a2) (same_rows E b1 b2) h) (second_so (option_eq (same_attr E) a2 a3) (same_rows E b2 b3) g))
    view_trans (fused a1 b1) (fused a2 b2) (named a3 b3) h g = g
    view_trans (fused a1 b1) (fused a2 b2) (call_site a3 b3) h g = g
    view_trans (fused a1 b1) (fused a2 b2) unknown h g = g
    view_trans (fused a1 b1) (named a2 b2) m h g = absurd (true≢false (sym h))
    view_trans (fused a1 b1) (call_site a2 b2) m h g = absurd (true≢false (sym h))
    view_trans (fused a1 b1) unknown m h g = absurd (true≢false (sym h))
    view_trans (named a1 b1) (src_pos a2 b2) m h g = absurd (true≢false (sym h))
    view_trans (named a1 b1) (fused a2 b2) m h g = absurd (true≢false (sym h))
    view_trans (named a1 b1) (named a2 b2) (src_pos a3 b3) h g = g
    view_trans (named a1 b1) (named a2 b2) (fused a3 b3) h g = g
    view_trans (named a1 b1) (named a2 b2) (named a3 b3) h g =
        both_so (bytes_eq a1 a3) (same_view E b1 b3)
        ((partial_equiv_from_equiv nat_list_eq_equiv).trans a1 a2 a3 (first_so (bytes_eq a1 a2) (same_view E b1 b2) h) (first_so (bytes_eq a2 a3) (same_view E b2 b3) g))
        (view_trans b1 b2 b3 (second_so (bytes_eq a1 a2) (same_view E b1 b2) h) (second_so (bytes_eq a2 a3) (same_view E b2 b3) g))
    view_trans (named a1 b1) (named a2 b2) (call_site a3 b3) h g = g
    view_trans (named a1 b1) (named a2 b2) unknown h g = g
    view_trans (named a1 b1) (call_site a2 b2) m h g = absurd (true≢false (sym h))
    view_trans (named a1 b1) unknown m h g = absurd (true≢false (sym h))
    view_trans (call_site a1 b1) (src_pos a2 b2) m h g = absurd (true≢false (sym h))
    view_trans (call_site a1 b1) (fused a2 b2) m h g = absurd (true≢false (sym h))
    view_trans (call_site a1 b1) (named a2 b2) m h g = absurd (true≢false (sym h))
    view_trans (call_site a1 b1) (call_site a2 b2) (src_pos a3 b3) h g = g
    view_trans (call_site a1 b1) (call_site a2 b2) (fused a3 b3) h g = g
    view_trans (call_site a1 b1) (call_site a2 b2) (named a3 b3) h g = g
    view_trans (call_site a1 b1) (call_site a2 b2) (call_site a3 b3) h g =
        both_so (same_view E a1 a3) (same_view E b1 b3)
        (view_trans a1 a2 a3 (first_so (same_view E a1 a2) (same_view E b1 b2) h) (first_so (same_view E a2 a3) (same_view E b2 b3) g))
        (view_trans b1 b2 b3 (second_so (same_view E a1 a2) (same_view E b1 b2) h) (second_so (same_view E a2 a3) (same_view E b2 b3) g))
    view_trans (call_site a1 b1) (call_site a2 b2) unknown h g = g
    view_trans (call_site a1 b1) unknown m h g = absurd (true≢false (sym h))
    view_trans unknown (src_pos a2 b2) m h g = absurd (true≢false (sym h))
    view_trans unknown (fused a2 b2) m h g = absurd (true≢false (sym h))
    view_trans unknown (named a2 b2) m h g = absurd (true≢false (sym h))
    view_trans unknown (call_site a2 b2) m h g = absurd (true≢false (sym h))
    view_trans unknown unknown (src_pos a3 b3) h g = g
    view_trans unknown unknown (fused a3 b3) h g = g
    view_trans unknown unknown (named a3 b3) h g = g
    view_trans unknown unknown (call_site a3 b3) h g = g
    view_trans unknown unknown unknown h g = g

    rows_trans : (ks ls ms : LocationViews A) → same_rows E ks ls ≡ true → same_rows E ls ms ≡ true → same_rows E ks ms ≡ true
    rows_trans no_location no_location ms h g = g
    rows_trans no_location (location l ls) ms h g = absurd (true≢false (sym h))
    rows_trans (location k ks) no_location ms h g = absurd (true≢false (sym h))
    rows_trans (location k ks) (location l ls) no_location h g = g
    rows_trans (location a1 b1) (location a2 b2) (location a3 b3) h g =
        both_so (same_view E a1 a3) (same_rows E b1 b3)
        (view_trans a1 a2 a3 (first_so (same_view E a1 a2) (same_rows E b1 b2) h) (first_so (same_view E a2 a3) (same_rows E b2 b3) g))
        (rows_trans b1 b2 b3 (second_so (same_view E a1 a2) (same_rows E b1 b2) h) (second_so (same_view E a2 a3) (same_rows E b2 b3) g))

  -- the equality of locations is symmetric and transitive if that of the caller's attributes is
  pub view_per : IsPartialEquivalence (same_view E)
  view_per = record { symm = view_symm; trans = view_trans }

module _ {A : Type 0} (E : A → A → Bool) (e : IsEquivalence E) where
  attr_itself : (a : AttrView A) → same_attr E a a ≡ true
  attr_itself (given_names a) = names_equiv.refl a
  attr_itself (ident a) = nat_list_eq_equiv.refl a
  attr_itself (own a) = e.refl a

  mutual
    view_itself : (l : LocationView A) → same_view E l l ≡ true
    view_itself (src_pos s p) = both_so (same_source s s) (same_position p p) (source_itself s) (position_itself p)
    view_itself (fused m ls) = both_so (option_eq (same_attr E) m m) (same_rows E ls ls) (option_itself (same_attr E) attr_itself m) (rows_itself ls)
    view_itself (named a l) = both_so (bytes_eq a a) (same_view E l l) (nat_list_eq_equiv.refl a) (view_itself l)
    view_itself (call_site a b) = both_so (same_view E a a) (same_view E b b) (view_itself a) (view_itself b)
    view_itself unknown = refl

    rows_itself : (ls : LocationViews A) → same_rows E ls ls ≡ true
    rows_itself no_location = refl
    rows_itself (location l ls) = both_so (same_view E l l) (same_rows E ls ls) (view_itself l) (rows_itself ls)

  -- the equality of locations is an equivalence if that of the caller's attributes is
  pub view_equiv : IsEquivalence (same_view E)
  view_equiv = equiv (view_per E (partial_equiv_from_equiv e)) view_itself

-- what a source feeds a hasher: 0 and the key of a file's path, or 1
abbrev pub fed_source : Source → HashWrites
fed_source (File key) = fed.isize (pos 0) ++ fed.u32 key.index
fed_source InMemory = fed.isize (pos 1)

module _ {A : Type 0} (feeds : A → HashWrites) where
  abbrev mutual
    -- what a location feeds a hasher: the number of its variant, and then its parts in order
    pub fed_view : LocationView A → HashWrites
    fed_view (src_pos src at) = fed.isize (pos 0) ++ (fed_source src ++ position_writes at)
    fed_view (fused metadata locations) = fed.isize (pos 1) ++ (fed.option (attr_writes feeds) metadata ++ (fed.usize (row_len locations) ++ fed_rows locations))
    fed_view (named name child) = fed.isize (pos 2) ++ (fed.str name ++ fed_view child)
    fed_view (call_site callee caller) = fed.isize (pos 3) ++ (fed_view callee ++ fed_view caller)
    fed_view unknown = fed.isize (pos 4)

    -- what the locations of a row feed a hasher, one after the other
    pub fed_rows : LocationViews A → HashWrites
    fed_rows no_location = []
    fed_rows (location l ls) = fed_view l ++ fed_rows ls

source_fed : (s t : Source) → same_source s t ≡ true → fed_source s ≡ fed_source t
source_fed (File k) (File j) h = ap (λ i. fed.isize (pos 0) ++ fed.u32 i) ((unsigned_Decides k.index j.index).0 h)
source_fed (File k) InMemory h = absurd (true≢false (sym h))
source_fed InMemory (File j) h = absurd (true≢false (sym h))
source_fed InMemory InMemory h = refl

position_fed : (p q : SourcePosition) → same_position p q ≡ true → position_writes p ≡ position_writes q
position_fed p q h =
    ap₂ (λ l c. fed.i32 l ++ fed.i32 c) ((signed_Decides p.line q.line).0 (first_so (int_eq p.line q.line) (int_eq p.column q.column) h)) ((signed_Decides p.column q.column).0 (second_so (int_eq p.line q.line) (int_eq p.column q.column) h))

option_fed : {X : Type 0} (D : X → X → Bool) (F : X → HashWrites) → ((x y : X) → D x y ≡ true → F x ≡ F y) → (m n : Option X) → option_eq D m n ≡ true → fed.option F m ≡ fed.option F n
option_fed D F f None None h = refl
option_fed D F f None (Some y) h = absurd (true≢false (sym h))
option_fed D F f (Some x) None h = absurd (true≢false (sym h))
option_fed D F f (Some x) (Some y) h = ap (λ w. fed.isize (pos 1) ++ w) (f x y h)

text_fed : (a b : List ℕ) → bytes_eq a b ≡ true → fed.str a ≡ fed.str b
text_fed a b h = ap fed.str ((bytes_decides a b).0 h)

names_fed : (a b : List (Option (List ℕ))) → pointwise (option_eq bytes_eq) a b ≡ true → fed.slice (fed.option fed.str) a ≡ fed.slice (fed.option fed.str) b
names_fed = (fed.items_Alike {E = option_eq bytes_eq} {F = fed.option fed.str} (record { fed = option_fed bytes_eq fed.str text_fed })).fed

module _ {A : Type 0} (E : A → A → Bool) (feeds : A → HashWrites) (f : (x y : A) → E x y ≡ true → feeds x ≡ feeds y) where
  attr_fed : (a b : AttrView A) → same_attr E a b ≡ true → attr_writes feeds a ≡ attr_writes feeds b
  attr_fed (given_names a) (given_names b) h = ap (λ w. fed.isize (pos 0) ++ w) (names_fed a b h)
  attr_fed (given_names a) (ident b) h = absurd (true≢false (sym h))
  attr_fed (given_names a) (own b) h = absurd (true≢false (sym h))
  attr_fed (ident a) (given_names b) h = absurd (true≢false (sym h))
  attr_fed (ident a) (ident b) h = ap (λ w. fed.isize (pos 1) ++ w) (text_fed a b h)
  attr_fed (ident a) (own b) h = absurd (true≢false (sym h))
  attr_fed (own a) (given_names b) h = absurd (true≢false (sym h))
  attr_fed (own a) (ident b) h = absurd (true≢false (sym h))
  attr_fed (own a) (own b) h = ap (λ w. fed.isize (pos 2) ++ w) (f a b h)

  len_fed : (ls ks : LocationViews A) → same_rows E ls ks ≡ true → row_len ls ≡ row_len ks
  len_fed no_location no_location h = refl
  len_fed no_location (location k ks) h = absurd (true≢false (sym h))
  len_fed (location l ls) no_location h = absurd (true≢false (sym h))
  len_fed (location l ls) (location k ks) h = ap suc (len_fed ls ks (second_so (same_view E l k) (same_rows E ls ks) h))

  mutual
    -- equal locations feed the same to a hasher
    pub view_fed : (k l : LocationView A) → same_view E k l ≡ true → fed_view feeds k ≡ fed_view feeds l
    view_fed (src_pos a1 b1) (src_pos a2 b2) h = ap₂ (λ v w. fed.isize (pos 0) ++ (v ++ w)) (source_fed a1 a2 (first_so (same_source a1 a2) (same_position b1 b2) h)) (position_fed b1 b2 (second_so (same_source a1 a2) (same_position b1 b2) h))
    view_fed (src_pos a1 b1) (fused a2 b2) h = absurd (true≢false (sym h))
    view_fed (src_pos a1 b1) (named a2 b2) h = absurd (true≢false (sym h))
    view_fed (src_pos a1 b1) (call_site a2 b2) h = absurd (true≢false (sym h))
    view_fed (src_pos a1 b1) unknown h = absurd (true≢false (sym h))
    view_fed (fused a1 b1) (src_pos a2 b2) h = absurd (true≢false (sym h))
    view_fed (fused a1 b1) (fused a2 b2) h =
        let rows = second_so (option_eq (same_attr E) a1 a2) (same_rows E b1 b2) h in
        ap₂ (λ v w. fed.isize (pos 1) ++ (v ++ w)) (option_fed (same_attr E) (attr_writes feeds) attr_fed a1 a2 (first_so (option_eq (same_attr E) a1 a2) (same_rows E b1 b2) h))
        (ap₂ (λ n w. fed.usize n ++ w) (len_fed b1 b2 rows) (rows_fed b1 b2 rows))
    view_fed (fused a1 b1) (named a2 b2) h = absurd (true≢false (sym h))
    view_fed (fused a1 b1) (call_site a2 b2) h = absurd (true≢false (sym h))
    view_fed (fused a1 b1) unknown h = absurd (true≢false (sym h))
    view_fed (named a1 b1) (src_pos a2 b2) h = absurd (true≢false (sym h))
    view_fed (named a1 b1) (fused a2 b2) h = absurd (true≢false (sym h))
    view_fed (named a1 b1) (named a2 b2) h = ap₂ (λ v w. fed.isize (pos 2) ++ (v ++ w)) (text_fed a1 a2 (first_so (bytes_eq a1 a2) (same_view E b1 b2) h)) (view_fed b1 b2 (second_so (bytes_eq a1 a2) (same_view E b1 b2) h))
    view_fed (named a1 b1) (call_site a2 b2) h = absurd (true≢false (sym h))
    view_fed (named a1 b1) unknown h = absurd (true≢false (sym h))
    view_fed (call_site a1 b1) (src_pos a2 b2) h = absurd (true≢false (sym h))
    view_fed (call_site a1 b1) (fused a2 b2) h = absurd (true≢false (sym h))
    view_fed (call_site a1 b1) (named a2 b2) h = absurd (true≢false (sym h))
    view_fed (call_site a1 b1) (call_site a2 b2) h = ap₂ (λ v w. fed.isize (pos 3) ++ (v ++ w)) (view_fed a1 a2 (first_so (same_view E a1 a2) (same_view E b1 b2) h)) (view_fed b1 b2 (second_so (same_view E a1 a2) (same_view E b1 b2) h))
    view_fed (call_site a1 b1) unknown h = absurd (true≢false (sym h))
    view_fed unknown (src_pos a2 b2) h = absurd (true≢false (sym h))
    view_fed unknown (fused a2 b2) h = absurd (true≢false (sym h))
    view_fed unknown (named a2 b2) h = absurd (true≢false (sym h))
    view_fed unknown (call_site a2 b2) h = absurd (true≢false (sym h))
    view_fed unknown unknown h = refl

    rows_fed : (ls ks : LocationViews A) → same_rows E ls ks ≡ true → fed_rows feeds ls ≡ fed_rows feeds ks
    rows_fed no_location no_location h = refl
    rows_fed no_location (location k ks) h = absurd (true≢false (sym h))
    rows_fed (location l ls) no_location h = absurd (true≢false (sym h))
    rows_fed (location l ls) (location k ks) h =
        ap₂ ◌++◌ (view_fed l k (first_so (same_view E l k) (same_rows E ls ks) h)) (rows_fed ls ks (second_so (same_view E l k) (same_rows E ls ks) h))
