use Rattle.std.proofs.Common.{◌≡◌, ◌≢◌, ◌∙◌, sym, ap, arith, Some, inl, inr, refl}
use Rattle.irtext_graph.specs.Objects.{up, eq_object}
use Rattle.irtext_graph.proofs.Nests.{same_or_other, renested, some_eq}
use Rattle.irtext_graph.proofs.Same.{object_tells}
use Rattle.irtext_graph.proofs.Erased.{childless, same_on}
use Rattle.irtext_graph.proofs.Kept.{datum_on, datum_at, sheds_on, sheds_none}
use Rattle.irtext_graph.proofs.objects.Objects.drop_leaf.Goals as goal

pub returns-clause-drops : goal.returns-clause-drops
returns-clause-drops g c =
    let x = c.args.self.now in
    let u = c.unlink.ensures in
    let v = c.vacate.ensures in
    let k = c.in-Some.k in
    let o = c.args.c in
    let e : up x o ≡ Some k = sym c.parent_of.ensures ∙ c.in-Some.is in
    let alone : up x o ≢ Some o = λ f. childless x o o c.requires.forest c.requires.leaf f in
    let k_not : k ≢ o = λ s. alone (e ∙ ap Some s) in
    record {
      forest = renested eq_object object_tells u.forest
          (λ q. elim (same_or_other object_tells q o) [ inl s ↦ rw s (v.gone_kids ∙ sym (u.kids o alone ∙ c.requires.leaf)) | inr ne ↦ (v.others q ne).same_kids ])
          (λ q. elim (same_or_other object_tells q o) [ inl s ↦ rw s (v.gone_up ∙ sym u.free) | inr ne ↦ (v.others q ne).same_up ]);
      gone = record { gone_up = v.gone_up; gone_kids = v.gone_kids; gone_what = v.gone };
      parent = (v.others k k_not).same_up ∙ u.ups k k_not;
      same = (v.others k k_not).same_what ∙ u.data k;
      others = λ q nk nc. same_on (record { same_up = u.ups q nc; same_kids = u.kids q (λ f. nk (sym (some_eq (sym e ∙ f)))); same_what = u.data q }) (v.others q nc);
      kept_data = λ q nc. datum_on (datum_at u.all_data q) (v.data q nc);
      sheds = sheds_on (sheds_none u.places) v.sheds;
      fewer = let a = u.less (rw e refl) in let b = v.links in omega (arith, a, b);
    }
