-- Names that keep their numbers, with as many scopes open.
use Rattle.std.proofs.Common.{◌≡◌, ◌∙◌, length, Some, slice_get, sym, ap, subst}
use Rattle.irtext_parse_pieces.specs.Named.{NamesRead}
use Rattle.irtext_names.specs.Items.{Names, KeepsDepths}

-- names were parsed
pub depths_read : (old new : Names) → NamesRead old new → KeepsDepths old new
depths_read old new read = record { kept = read.kept; values = ap length read.values; labels = ap length read.labels }

-- and then there are the same
pub depths_on : (old mid new : Names) → KeepsDepths old mid → new.names ≡ mid.names → length new.values ≡ length mid.values → length new.labels ≡ length mid.labels → KeepsDepths old new
depths_on old mid new depths names values labels = record {
  kept = λ i t e. subst (λ ns. slice_get ns i ≡ Some t) (sym names) (depths.kept i t e);
  values = values ∙ depths.values;
  labels = labels ∙ depths.labels;
}

-- they are the same
pub depths_same : (old new : Names) → new.names ≡ old.names → length new.values ≡ length old.values → length new.labels ≡ length old.labels → KeepsDepths old new
depths_same old new names values labels = record { kept = λ i t e. subst (λ ns. slice_get ns i ≡ Some t) (sym names) e; values = values; labels = labels }
