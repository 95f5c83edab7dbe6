use Rattle.std.proofs.Common.{◌≡◌, ◌∙◌, ◌++◌, [], map, sym, ap, subst, append-nil}
use Rattle.irtext_grammar.specs.Forms.{form_pieces, pieces_of}
use Rattle.irtext_survey.specs.Walk.{AreNamed, Notes, read_as, all_read}
use Rattle.irtext_survey.specs.declared.notes.Mention.TheVariants as mention
use Rattle.irtext_survey.proofs.Mentions.{named_first, named_last, notes_then, on_then}
use Rattle.irtext_survey.proofs.Uses.{found_read}
use Rattle.irtext_survey.proofs.opening.pieces_noted.Goals as goal

pub names_noted-requires : goal.names_noted-requires
names_noted-requires g c =
    let p = c.in-Canonical.pieces in
    let e : pieces_of p ≡ c.args.pieces = ap form_pieces (sym c.in-Canonical.is) ∙ c.into_form.ensures in
    named_first c.args.names.now.names (read_as mention.UsesValue p.operands) (read_as mention.UsesLabel p.successors ++ []) (subst (λ ps. AreNamed c.args.names.now.names (all_read ps)) (sym e) c.requires)

pub names_noted-requires-in-Canonical : goal.names_noted-requires-in-Canonical
names_noted-requires-in-Canonical g c =
    let p = c.in-Canonical.pieces in
    let e : pieces_of p ≡ c.args.pieces = ap form_pieces (sym c.in-Canonical.is) ∙ c.into_form.ensures in
    named_first c.args.names.now.names (read_as mention.UsesLabel p.successors) []
    (named_last c.args.names.now.names (read_as mention.UsesValue p.operands) (read_as mention.UsesLabel p.successors ++ []) (subst (λ ps. AreNamed c.args.names.now.names (all_read ps)) (sym e) c.requires))

pub found_noted-answer-requires : goal.found_noted-answer-requires
found_noted-answer-requires g c =
    let found = c.into_found-found in
    let e : c.in-Custom.pieces ≡ c.args.pieces = ap form_pieces (sym c.in-Custom.is) ∙ c.into_form.ensures in
    let all : all_read c.args.pieces ≡ all_read (map (λ f. f.1) found.result.items) = ap all_read (sym e ∙ found.ensures.1) ∙ found_read found.result.items found.ensures.0 in
    subst (λ xs. AreNamed c.args.names.now.names (all_read (map (λ f. f.1) xs))) (sym c.deref.ensures.value) (subst (AreNamed c.args.names.now.names) all c.requires)

pub returns-in_default : goal.returns-in_default
returns-in_default g c =
    let p = c.in-Canonical.pieces in
    let e : pieces_of p ≡ c.args.pieces = ap form_pieces (sym c.in-Canonical.is) ∙ c.into_form.ensures in
    let all : read_as mention.UsesValue p.operands ++ read_as mention.UsesLabel p.successors ≡ all_read c.args.pieces = ap (λ l. read_as mention.UsesValue p.operands ++ l) (sym (append-nil (read_as mention.UsesLabel p.successors))) ∙ ap all_read e in
    on_then c.names_noted-in-Canonical.result (λ n. subst (λ rs. Notes c.args.names.now.names c.args.name.now rs c.args.book.now c.names_noted-in-Canonical.new.book) all
    (notes_then c.args.names.now.names c.args.name.now (read_as mention.UsesValue p.operands) (read_as mention.UsesLabel p.successors) c.args.book.now c.names_noted.new.book c.names_noted-in-Canonical.new.book c.in_default.ensures n)) c.names_noted-in-Canonical.ensures

pub returns-in-Custom : goal.returns-in-Custom
returns-in-Custom g c =
    let found = c.into_found-found in
    let e : c.in-Custom.pieces ≡ c.args.pieces = ap form_pieces (sym c.in-Custom.is) ∙ c.into_form.ensures in
    let all : all_read c.args.pieces ≡ all_read (map (λ f. f.1) found.result.items) = ap all_read (sym e ∙ found.ensures.1) ∙ found_read found.result.items found.ensures.0 in
    on_then c.found_noted-answer.result (λ n. subst (λ rs. Notes c.args.names.now.names c.args.name.now rs c.args.book.now c.found_noted-answer.new.book) (sym all)
    (subst (λ xs. Notes c.args.names.now.names c.args.name.now (all_read (map (λ f. f.1) xs)) c.args.book.now c.found_noted-answer.new.book) c.deref.ensures.value n)) c.found_noted-answer.ensures
