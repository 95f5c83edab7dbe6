use Rattle.std.proofs.Common.{◌≡◌, ◌∙◌, ap, sym, position, None}
use Rattle.std.specs.Map.{keys_of}
use Rattle.std.specs.Str.{bytes_eq}
use Rattle.irtext_context.proofs.FewEntries.{absent_from_place, insert-last}
use Rattle.irtext_context.proofs.base.attributes.others.put_among.Goals as goal

pub returns-then-len-lt-FEW-clause-ok : goal.returns-then-len-lt-FEW-clause-ok
returns-then-len-lt-FEW-clause-ok g c =
    let none : position (bytes_eq c.args.key) (keys_of c.args.few.now.entries.items) ≡ None =
    ap (λ k. position (bytes_eq k) (keys_of c.args.few.now.entries.items)) (sym c.as_str.ensures.text) ∙ sym c.place_of.ensures ∙ c.in_default.is in
    c.in_ok-push.ensures.items
    ∙ insert-last bytes_eq c.args.key c.args.attr c.args.few.now.entries.items (absent_from_place (bytes_eq c.args.key) c.args.few.now.entries.items none)
