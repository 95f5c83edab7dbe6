use Rattle.std.proofs.Common.{◌≡◌, Bool, List, ℕ, sym, ◌∙◌, ap, subst}
use Rattle.std.specs.Str.{chars}
use Rattle.irtext_base.specs.Text.{begins, in_dotted}
use Rattle.irtext_base.specs.Answers.{SameStream, Takes}
use Rattle.irtext_base.proofs.Compose.{seen_after, takes_same_stream}
use Rattle.irtext_stream.specs.Stream.{Comes}
use Rattle.irtext_tokens.proofs.Attributes.{dotted_bytes, leads_not, leads_less, leads_whole}
use Rattle.irtext_tokens.proofs.SetBack.{set_back, set_within}
use Rattle.irtext_tokens.proofs.Steps.{Lens, lens}
use Rattle.irtext_tokens.proofs.irfmt.parsers.attributes.take_word.Given as given
use Rattle.irtext_tokens.proofs.irfmt.parsers.attributes.take_word.Goals as goal

-- the stream's view, and the rules that it keeps
abbrev stream : (g : given.Over) → Lens g.row.S.Denot
stream g = let m = g.met.S.CharStream in lens g.S.CharStream.view g.S.CharStream.at m.view_at m.at_view m.at_at

-- the word was consumed, and whether a dotted word continues after it
record Accepted {S : Type 0} (l : Lens S) (word : List ℕ) (goes_on : Bool) (old mid : S) : Type 0 where
  pub rest : List ℕ
  pub takes : Takes l.view l.at word rest old mid
  pub same_stream : SameStream l.view l.at (l.view old).failed old mid
  pub next : begins in_dotted rest ≡ goes_on

accepted : {S : Type 0} (l : Lens S) (word : List ℕ) (goes_on : Bool) (old mid : S) → chars word ≡ word → Comes (chars word) (l.view old) (λ v. mid ≡ l.at old v) → goes_on ≡ begins in_dotted (l.view mid).rest → Accepted l word goes_on old mid
accepted l word goes_on old mid e h b =
    let k = subst (λ w. Comes w (l.view old) (λ v. mid ≡ l.at old v)) e h in
    let t : Takes l.view l.at word k.0 old mid = record { is = k.2; same = sym k.1 } in
    record { rest = k.0; takes = t; same_stream = takes_same_stream l.view l.at l.view_at l.at_at old mid word k.0 t; next = sym (b ∙ ap (λ v. begins in_dotted v.rest) (seen_after l.view l.at l.view_at l.at_at old mid word k.0 t)) }

pub returns-then-not-accept : goal.returns-then-not-accept
returns-then-not-accept g c =
    (leads_not c.args.word.now ((stream g).view c.args.stream.now).rest (rw (dotted_bytes c.args.word.now c.utf8.word c.requires) at c.if-not-accept.ensures.0), c.if-not-accept.ensures.1)

pub returns-then-not-begins : goal.returns-then-not-begins
returns-then-not-begins g c =
    let l = stream g in
    let word = c.args.word.now in
    let a = accepted l word _ c.args.stream.now c.accept.new.self (dotted_bytes word c.utf8.word c.requires) c.if-not-accept.ensures c.if-not-begins.ensures in
    let w = leads_whole word (l.view c.args.stream.now).rest a.rest (sym a.takes.same) c.requires a.next in
    (w.0, subst (λ z. Takes l.view l.at word z c.args.stream.now c.accept.new.self) w.1 a.takes)

pub reset-requires : goal.reset-requires
reset-requires g c =
    let l = stream g in
    let old = l.view c.args.stream.now in
    let a = accepted l c.args.word.now _ c.args.stream.now c.accept.new.self (dotted_bytes c.args.word.now c.utf8.word c.requires) c.if-not-accept.ensures c.if-not-begins.ensures in
    record { passed = old.passed; rest = old.rest; same = set_within l c.args.stream.now c.accept.new.self a.same_stream; positioned = c.position-place.ensures }

pub returns : goal.returns
returns g c =
    let l = stream g in
    let old = c.args.stream.now in
    let a = accepted l c.args.word.now _ old c.accept.new.self (dotted_bytes c.args.word.now c.utf8.word c.requires) c.if-not-accept.ensures c.if-not-begins.ensures in
    let back = c.reset.ensures (l.view old).passed (l.view old).rest (set_within l old c.accept.new.self a.same_stream) c.position-place.ensures in
    (leads_less c.args.word.now (l.view old).rest a.rest (sym a.takes.same) a.next, set_back l old c.accept.new.self c.reset.new.self a.same_stream back)
