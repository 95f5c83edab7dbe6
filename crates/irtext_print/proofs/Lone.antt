-- The mark and the section of an item, where no other is marked.
use Rattle.std.proofs.Common.{◌≡◌, ◌++◌, ◌∷◌, ◌∙◌, [], List, ℕ, true, false, cond, Option, Some, None, refl, sym, ap, append_assoc, append-nil, codes, arith, true≢false}
use Rattle.std.specs.Prelude.{⊤, decimal}
use Rattle.std.proofs.lemmas.Fmt.{decimal_digit}
use Rattle.std.proofs.lemmas.Str.{encodes-append}
use Rattle.std.specs.Str.{encode_utf8_all}
use Rattle.irtext_base.proofs.LocationViews.{seen-src_pos}
use Rattle.irtext_base.specs.Own.{Language}
use Rattle.irtext_base.specs.Paths.{written_with}
use Rattle.irtext_base.specs.Text.{Text}
use Rattle.irtext_base.specs.declared.location.Location.TheVariants.{SrcPos, Unknown}
use Rattle.irtext_base.specs.declared.location.Source.{Source}
use Rattle.irtext_base.specs.declared.location.Source.TheVariants.{File, InMemory}
use Rattle.irtext_grammar.specs.Grammar.Tree.{Attribute}
use Rattle.irtext_grammar.specs.Graphs.Graph.{Printing, Entry, is_marked}
use Rattle.irtext_grammar.specs.Spelling.Locations.{known_text, written_text}
use Rattle.irtext_stream.specs.declared.position.SourcePosition.{SourcePosition}
use Rattle.irtext_print.specs.Errors.Located.{between, framed}
use Rattle.irtext_print.proofs.Printers.Locations.{enclosed, framed_bytes, word, worded}
use Rattle.irtext_print.specs.Given.{marks_given, is_marked_by}
use Rattle.irtext_print.specs.Printers.LocationParts.{numbers_text}
use Rattle.irtext_print.specs.Items.{alone_of, section_of}

-- the first index
pub zero_written : decimal 0 ≡ codes "0"
zero_written = decimal_digit 0 (omega arith)

-- nothing is given beside a location
pub none_given : {A : Type 0} (es : List (Text × Attribute A)) → marks_given {A = A} Unknown es ≡ false → es ≡ []
none_given [] e = refl
none_given (x ∷ es) e = absurd (true≢false e)

-- a source that the test calls in memory is
pub memory_is : (src : Source) → elim src [ InMemory ↦ true | _ ↦ false ] ≡ true → src ≡ InMemory
memory_is InMemory e = refl
memory_is (File key) e = absurd (true≢false (sym e))

-- a place in memory alone, of which the words up to the line are written at once
pub place_alone : {A : Type 0} (written : A → Text) (paths : List (List ℕ)) (pos : SourcePosition) (f0 f1 f2 f3 : List ℕ)
    → f1 ≡ f0 ++ codes " !0\n\noutlined_attributes:\n!0 = @[<in-memory>: line: "
    → f2 ≡ f1 ++ encode_utf8_all (numbers_text pos) → f3 ≡ f2 ++ codes "], []\n"
    → f3 ≡ f0 ++ framed (codes " !0\n\noutlined_attributes:\n!0 = @[") (codes "], []\n") (known_text written paths (SrcPos InMemory pos))
place_alone {A = A} written paths pos f0 f1 f2 f3 p q r =
    let numbers = numbers_text pos in
    enclosed (codes " !0\n\noutlined_attributes:\n!0 = @[<in-memory>: line: ") numbers (codes "], []\n") f0 f1 f2 f3 refl refl p q r
    ∙ ap (λ z. f0 ++ z) (sym (framed_bytes (codes " !0\n\noutlined_attributes:\n!0 = @[") (codes "], []\n") refl refl (Some (codes "<in-memory>: line: " ++ numbers))))
    ∙ ap (λ v. f0 ++ framed (codes " !0\n\noutlined_attributes:\n!0 = @[") (codes "], []\n") (Some (written_text written (written_with paths v)))) (sym (seen-src_pos {A = A} InMemory pos))

-- the same between an entry's index and its attributes
pub place_between : {A : Type 0} (written : A → Text) (paths : List (List ℕ)) (pos : SourcePosition) (f0 f1 f2 f3 : List ℕ)
    → f1 ≡ f0 ++ codes " = @[<in-memory>: line: "
    → f2 ≡ f1 ++ encode_utf8_all (numbers_text pos) → f3 ≡ f2 ++ codes "], ["
    → f3 ≡ f0 ++ (codes " = " ++ (framed (codes "@[") (codes "], ") (known_text written paths (SrcPos InMemory pos)) ++ codes "["))
place_between {A = A} written paths pos f0 f1 f2 f3 p q r =
    let numbers = numbers_text pos in
    let bytes = encode_utf8_all numbers in
    r ∙ ap (λ z. z ++ codes "], [") (q ∙ ap (λ z. z ++ bytes) p)
    ∙ regroup f0 (codes " = ") (codes "@[") (codes "<in-memory>: line: ") bytes (codes "], ") (codes "[")
    ∙ ap (λ z. f0 ++ (codes " = " ++ ((codes "@[" ++ (z ++ codes "], ")) ++ codes "["))) (ap (λ z. z ++ bytes) (word (codes "<in-memory>: line: ") refl) ∙ sym (encodes-append (codes "<in-memory>: line: ") numbers))
    ∙ ap (λ v. f0 ++ (codes " = " ++ (framed (codes "@[") (codes "], ") (Some (written_text written (written_with paths v))) ++ codes "["))) (sym (seen-src_pos {A = A} InMemory pos))
  where
    regroup : (f a b c d e h : List ℕ) → ((f ++ (a ++ (b ++ c))) ++ d) ++ (e ++ h) ≡ f ++ (a ++ ((b ++ ((c ++ d) ++ e)) ++ h))
    regroup f a b c d e h = simp (append_assoc)

module _ {T A : Type 0} (C : Printing T A) (L : Language ⊤ T A) where
  -- a mark is written of what has attributes
  pub some_given : (l : Option Text) (es : List (Text × Attribute A)) → marks_given {A = A} Unknown es ≡ true → is_marked C l es ≡ true
  some_given l [] e = absurd (true≢false (sym e))
  some_given None (x ∷ es) e = refl
  some_given (Some t) (x ∷ es) e = refl

  -- nothing is written of what isn't there
  pub gone : (g : Option (Entry C)) (old : List ℕ) → g ≡ None → old ≡ old ++ encode_utf8_all (alone_of C L g)
  gone g old e = sym (append-nil old) ∙ ap (λ z. old ++ encode_utf8_all (alone_of C L z)) (sym e)

  -- the mark, and the section after it
  pub marked_alone : (g : Option (Entry C)) (l : Option Text) (es : List (Text × Attribute A)) (old mid new : List ℕ) → Some (record { location = l; attributes = es }) ≡ g → marks_given {A = A} Unknown es ≡ true →
      mid ≡ old ++ codes " !0" → new ≡ mid ++ encode_utf8_all (section_of C L (g ∷ [])) → new ≡ old ++ encode_utf8_all (alone_of C L g)
  marked_alone g l es old mid new e some w v =
      worded old mid new (codes " !0") (section_of C L (g ∷ [])) refl w v
      ∙ ap (λ b. old ++ encode_utf8_all (cond b (codes " !0" ++ section_of C L (g ∷ [])) [])) (sym (some_given l es some) ∙ ap (is_marked_by C) e)

  -- a location alone
  located_alone : (known : Option Text) → between (codes " !0\n\noutlined_attributes:\n!0 = @[") (codes "], []\n") known ≡ alone_of C L (Some (record { location = known; attributes = [] }))
  located_alone None = refl
  located_alone (Some t) =
      ap (λ z. codes " !0\n\noutlined_attributes:\n!0 = @[" ++ z) (regroup t (codes "], ") (codes "[") (codes "]\n"))
      ∙ ap (λ n. codes " !0" ++ (codes "\n\noutlined_attributes:\n" ++ (((codes "!" ++ (n ++ (codes " = " ++ ((codes "@[" ++ (t ++ codes "], ")) ++ (codes "[" ++ codes "]\n"))))) ++ []) ++ []))) (sym zero_written)
    where
      regroup : (t a b c : Text) → t ++ (a ++ (b ++ c)) ≡ (((t ++ a) ++ (b ++ c)) ++ []) ++ []
      regroup t a b c = simp (append_assoc, append-nil)

  -- an item of which the location alone is given
  pub location_alone : (g : Option (Entry C)) (l : Option Text) (es : List (Text × Attribute A)) (old new : List ℕ) → Some (record { location = l; attributes = es }) ≡ g → marks_given {A = A} Unknown es ≡ false →
      new ≡ old ++ framed (codes " !0\n\noutlined_attributes:\n!0 = @[") (codes "], []\n") l → new ≡ old ++ encode_utf8_all (alone_of C L g)
  location_alone g l es old new e none w =
      w ∙ ap (λ z. old ++ z) (framed_bytes (codes " !0\n\noutlined_attributes:\n!0 = @[") (codes "], []\n") refl refl l)
      ∙ ap (λ z. old ++ encode_utf8_all z) (located_alone l)
      ∙ ap (λ z. old ++ encode_utf8_all (alone_of C L (Some (record { location = l; attributes = z })))) (sym (none_given es none))
      ∙ ap (λ z. old ++ encode_utf8_all (alone_of C L z)) e
