-- The streams of generic code.
use borrow.Fn.World.{World}
use denote.RattleType.{RattleType}
use mir.Syntax.{Dict}
use Rattle.irtext_stream.specs.contracts.char_stream.CharStream.TheBound as bound
use Rattle.irtext_stream.specs.declared.char_stream.CharStream.{Ghosts}
use Rattle.irtext_tokens.proofs.Steps.{Lens, lens}

-- the stream's view, and the rules that it keeps
abbrev pub lens_of : (w : World) {T : RattleType} {G : Ghosts T.Denot} {d : Dict} → bound.Met w.𝓛 w.𝓜 w.𝓡 w.𝓡.env T G d → Lens T.Denot
lens_of w {G = G} met = lens G.view G.at met.view_at met.at_view met.at_at
