use Rattle.std.proofs.Common.{[], ◌∷◌}
use Rattle.irtext_names.specs.Kinds.{NamesOf.{values, labels}}
use Rattle.irtext_grammar.specs.declared.parsed.ReadPiece.TheVariants as read
use Rattle.irtext_grammar.specs.Forms.{pieces_of}
use Rattle.irtext_grammar.specs.Found.{with_words}
use Rattle.irtext_names.specs.Gathering.{RefusesGathering}
use Rattle.irtext_names.proofs.Gathering.{gathering_begins, gathering_can, gathering_more, gathering_refused, gathering_ends}
use Rattle.irtext_names.proofs.Halves.{gathering_half}
use Rattle.irtext_names.proofs.Steady.{steady_itself, steady_both}
use Rattle.irtext_names.proofs.operation_parts.canonical_gathered.Goals as goal

pub names_gathered-requires-clause-can : goal.names_gathered-requires-clause-can
names_gathered-requires-clause-can g c =
    let p = c.args.pieces in
    let s0 = gathering_begins (pieces_of p) c.args.names.now c.args.graph.now c.args.gathered.now c.requires.tied c.requires.can in
    (gathering_can 1 (read.Operands p.operands) (with_words ((2, read.Successors p.successors) ∷ (1, read.Dictionary p.entries) ∷ (3, read.Types p.inputs) ∷ (3, read.Types p.results) ∷ []) 2) s0).names_are

pub names_gathered-requires-2-clause-can : goal.names_gathered-requires-2-clause-can
names_gathered-requires-2-clause-can g c =
    let p = c.args.pieces in
    let s0 = gathering_begins (pieces_of p) c.args.names.now c.args.graph.now c.args.gathered.now c.requires.tied c.requires.can in
    let s1 = gathering_half values c.names_gathered.new.placed 1 (read.Operands p.operands) (with_words ((2, read.Successors p.successors) ∷ (1, read.Dictionary p.entries) ∷ (3, read.Types p.inputs) ∷ (3, read.Types p.results) ∷ []) 2) s0 c.names_gathered.ensures.steady c.in_default.ensures.gathers in
    (gathering_can 2 (read.Successors p.successors) (with_words ((1, read.Dictionary p.entries) ∷ (3, read.Types p.inputs) ∷ (3, read.Types p.results) ∷ []) 2) s1).names_are

pub names_gathered-requires-2-clause-tied : goal.names_gathered-requires-2-clause-tied
names_gathered-requires-2-clause-tied g c = c.names_gathered.ensures.steady.tied

pub returns-in-Err-clause-refused : goal.returns-in-Err-clause-refused
returns-in-Err-clause-refused g c =
    let p = c.args.pieces in
    let s0 = gathering_begins (pieces_of p) c.args.names.now c.args.graph.now c.args.gathered.now c.requires.tied c.requires.can in
    gathering_refused 1 (read.Operands p.operands) (with_words ((2, read.Successors p.successors) ∷ (1, read.Dictionary p.entries) ∷ (3, read.Types p.inputs) ∷ (3, read.Types p.results) ∷ []) 2) s0 _ c.in-Err.ensures.refused

pub returns-in-Err-names_gathered-clause-refused : goal.returns-in-Err-names_gathered-clause-refused
returns-in-Err-names_gathered-clause-refused g c =
    let p = c.args.pieces in
    let s0 = gathering_begins (pieces_of p) c.args.names.now c.args.graph.now c.args.gathered.now c.requires.tied c.requires.can in
    let s1 = gathering_half values c.names_gathered.new.placed 1 (read.Operands p.operands) (with_words ((2, read.Successors p.successors) ∷ (1, read.Dictionary p.entries) ∷ (3, read.Types p.inputs) ∷ (3, read.Types p.results) ∷ []) 2) s0 c.names_gathered.ensures.steady c.in_default.ensures.gathers in
    gathering_refused 2 (read.Successors p.successors) (with_words ((1, read.Dictionary p.entries) ∷ (3, read.Types p.inputs) ∷ (3, read.Types p.results) ∷ []) 2) s1 _ c.in-Err-names_gathered.ensures.refused

pub returns-in-Err-dictionary_gathered-clause-refused : goal.returns-in-Err-dictionary_gathered-clause-refused
returns-in-Err-dictionary_gathered-clause-refused g c =
    let p = c.args.pieces in
    let s0 = gathering_begins (pieces_of p) c.args.names.now c.args.graph.now c.args.gathered.now c.requires.tied c.requires.can in
    let s1 = gathering_half values c.names_gathered.new.placed 1 (read.Operands p.operands) (with_words ((2, read.Successors p.successors) ∷ (1, read.Dictionary p.entries) ∷ (3, read.Types p.inputs) ∷ (3, read.Types p.results) ∷ []) 2) s0 c.names_gathered.ensures.steady c.in_default.ensures.gathers in
    let s2 = gathering_half labels c.names_gathered-2.new.placed 2 (read.Successors p.successors) (with_words ((1, read.Dictionary p.entries) ∷ (3, read.Types p.inputs) ∷ (3, read.Types p.results) ∷ []) 2) s1 c.names_gathered-2.ensures.steady c.in_default-names_gathered.ensures.gathers in
    gathering_refused 1 (read.Dictionary p.entries) (with_words ((3, read.Types p.inputs) ∷ (3, read.Types p.results) ∷ []) 2) s2 _ (c.in-Err-dictionary_gathered.ensures.refused c.names_gathered-2.new.names c.names_gathered-2.new.graph)

pub returns-in-Err-names_gathered-clause-steady : goal.returns-in-Err-names_gathered-clause-steady
returns-in-Err-names_gathered-clause-steady g c = steady_both c.names_gathered.ensures.steady c.names_gathered-2.ensures.steady

pub returns-in-Err-dictionary_gathered-clause-steady : goal.returns-in-Err-dictionary_gathered-clause-steady
returns-in-Err-dictionary_gathered-clause-steady g c = steady_both c.names_gathered.ensures.steady c.names_gathered-2.ensures.steady

pub returns-clause-steady : goal.returns-clause-steady
returns-clause-steady g c = steady_both c.names_gathered.ensures.steady c.names_gathered-2.ensures.steady

pub returns-clause-gathers : goal.returns-clause-gathers
returns-clause-gathers g c =
    let p = c.args.pieces in
    let s0 = gathering_begins (pieces_of p) c.args.names.now c.args.graph.now c.args.gathered.now c.requires.tied c.requires.can in
    let s1 = gathering_half values c.names_gathered.new.placed 1 (read.Operands p.operands) (with_words ((2, read.Successors p.successors) ∷ (1, read.Dictionary p.entries) ∷ (3, read.Types p.inputs) ∷ (3, read.Types p.results) ∷ []) 2) s0 c.names_gathered.ensures.steady c.in_default.ensures.gathers in
    let s2 = gathering_half labels c.names_gathered-2.new.placed 2 (read.Successors p.successors) (with_words ((1, read.Dictionary p.entries) ∷ (3, read.Types p.inputs) ∷ (3, read.Types p.results) ∷ []) 2) s1 c.names_gathered-2.ensures.steady c.in_default-names_gathered.ensures.gathers in
    let names = c.names_gathered-2.new.names in
    let graph = c.names_gathered-2.new.graph in
    let still = steady_itself names graph s2.steady.tied in
    let s3 = gathering_more 1 (read.Dictionary p.entries) (with_words ((3, read.Types p.inputs) ∷ (3, read.Types p.results) ∷ []) 2) s2 still (c.in_default-dictionary_gathered.ensures.gathers names graph) in
    let s4 = gathering_more 3 (read.Types p.inputs) (with_words ((3, read.Types p.results) ∷ []) 2) s3 still (c.types_gathered.ensures names graph) in
    let s5 = gathering_more 3 (read.Types p.results) (with_words [] 2) s4 still (c.types_gathered-2.ensures names graph) in
    gathering_ends 2 s5
