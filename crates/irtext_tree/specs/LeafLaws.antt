-- A family whose values hold no others obeys the law of a grammar.
use Rattle.std.proofs.Common.{false, ◌++◌, refl, sym, ◌∙◌, ap, true≢false}
use Rattle.irtext_base.specs.Own.{Lawful, Sincere, Unreserved, texts_of, verdict}
use Rattle.irtext_base.specs.Families.{BeginsWithWord}
use Rattle.irtext_base.specs.Text.{Text}
use Rattle.irtext_base.proofs.Characters.{word_tight}
use Rattle.irtext_tokens.specs.Infix.{Reader}
use Rattle.irtext_tree.specs.GrammarLaws.{GrammarLaw}
use Rattle.irtext_tree.specs.Leaves.{leaf_growth}
use Rattle.irtext_tree.specs.Words.{HeadsLed, HeadsUnreserved}
use Rattle.irtext_tree.specs.declared.places.Leaf.{Leaf}

module _ {H : Type 0} (reading : Reader H) (written : H → Text) where
  pub leaf_law : Lawful H (texts_of reading written) → Sincere reading → GrammarLaw (leaf_growth {H = H}) (λ (s : Leaf). reading) written
  leaf_law l s = record {
    closing = λ s. false;
    not_start = refl;
    closes = λ h rest e. absurd (true≢false (sym e));
    second = λ h. tt;
    decides = λ s t. (λ e. refl, λ e. refl);
    back = λ h rest e. let k = l.again h rest e in
        (k.0, ap (λ z. verdict (reading z)) (word_tight (written h ++ rest) (l.starts h rest)) ∙ k.1, k.2);
    scalars = l.scalars;
    sincere = λ p. s;
    placed = λ p o text h taken left e. refl;
    advances = λ p text h taken left e. tt;
    starts = λ h rest e. l.starts h rest;
    misses = l.misses;
  }

  pub leaf_led : {words : _} → BeginsWithWord words written → HeadsLed (leaf_growth {H = H}) words written
  leaf_led b h rest e f = b.leads h rest f

  pub leaf_unreserved : Unreserved H (texts_of reading written) → HeadsUnreserved (leaf_growth {H = H}) written
  leaf_unreserved u = record { given_names = λ h rest left p k. u.given_names h rest left k; identifier = λ h rest left p k. u.identifier h rest left k }
