use Rattle.std.proofs.Common.{◌∙◌, ap, codes}
use Rattle.std.specs.Option.{is_some}
use Rattle.irtext_base.specs.Families.{is_one_of}
use Rattle.irtext_base.specs.Text.{Text}
use Rattle.irtext_llvm.specs.Attributes.{attr_words, attr_word}
use Rattle.irtext_llvm.proofs.Words.{IsFound, in_group, in_others, in_last, in_none}
use Rattle.irtext_llvm.proofs.attributes.LlvmAttrWorded.has_word.Goals as goal

-- a word is found exactly if it is one of the words
all_found : (text : Text) → IsFound (attr_word text) (is_one_of attr_words text)
all_found text =
    in_group text (codes "llvm.int") _ _ _ (
    in_group text (codes "llvm.bool") _ _ _ (
    in_group text (codes "llvm.float") _ _ _ (
    in_group text (codes "llvm.bits") _ _ _ (
    in_group text (codes "llvm.string") _ _ _ (
    in_group text (codes "llvm.bytes") _ _ _ (
    in_group text (codes "llvm.symbol") _ _ _ (
    in_group text (codes "llvm.block") _ _ _ (
    in_others _ (
    in_group text (codes "llvm.zero") _ _ _ (
    in_group text (codes "llvm.undef") _ _ _ (
    in_group text (codes "llvm.ints") _ _ _ (
    in_group text (codes "llvm.floats") _ _ _ (
    in_group text (codes "llvm.symbols") _ _ _ (
    in_group text (codes "llvm.type") _ _ _ (
    in_group text (codes "llvm.inbounds") _ _ _ (
    in_group text (codes "llvm.cond") _ _ _ (
    in_others _ (
    in_group text (codes "llvm.fcond") _ _ _ (
    in_group text (codes "llvm.overflow") _ _ _ (
    in_group text (codes "llvm.at") _ _ _ (
    in_group text (codes "llvm.mask") _ _ _ (
    in_group text (codes "llvm.cases") _ _ _ (
    in_group text (codes "llvm.ordering") _ _ _ (
    in_group text (codes "llvm.rmw") _ _ _ (
    in_group text (codes "llvm.clauses") _ _ _ (
    in_others _ (
    in_last text (codes "llvm.pointer") _ _ (
    in_last text (codes "llvm.asm") _ _ (
    in_last text (codes "llvm.linkage") _ _ (
    in_last text (codes "llvm.align") _ _ (
    in_last text (codes "llvm.flag") _ _ (
    in_last text (codes "llvm.word") _ _ (
    in_last text (codes "llvm.text") _ _ (
    in_last text (codes "llvm.signature") _ _ (
    in_last text (codes "llvm.fast") _ _ in_none)))))))))))))))))))))))))))))))))))

pub returns : goal.returns
returns g c = c.is_some.ensures ∙ (ap is_some c.of_text.ensures ∙ (all_found c.args.word.now).is_found)
