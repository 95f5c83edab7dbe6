use Rattle.irtext_format_check.proofs.Conditions.{c1_says, says_c1, c2_says, says_c2, c3_says, says_c3, c4_says, says_c4, c5_says, says_c5, c6_says, says_c6, c7_says, says_c7}
use Rattle.irtext_format_check.proofs.Meetings.{c8_says, says_c8}
use Rattle.irtext_format_check.proofs.laws.conditions_on_formats.Goals as goal

pub returns : goal.returns
returns c = record {
  literals = λ ds. (c1_says ds, says_c1 ds);
  operands = λ ds. (c2_says ds, says_c2 ds);
  successors = λ ds. (c3_says ds, says_c3 ds);
  result_types = λ ds. (c4_says ds, says_c4 ds);
  regions = λ ds. (c5_says ds, says_c5 ds);
  attributes = λ ds. (c6_says ds, says_c6 ds);
  order = λ ds. (c7_says ds, says_c7 ds);
  lists = λ ds. (c8_says ds, says_c8 ds);
}
