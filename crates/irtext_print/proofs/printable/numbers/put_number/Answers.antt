use Rattle.std.proofs.Common.{◌/◌, ◌≤◌, ◌<◌, arith}
use Rattle.irtext_print.proofs.Digits.{hundreds-put}
use Rattle.irtext_print.proofs.printable.numbers.put_number.Goals as goal

pub returns-then-number-lt10000-clause-bytes : goal.returns-then-number-lt10000-clause-bytes
returns-then-number-lt10000-clause-bytes c =
    let some : 100 ≤ c.args.number = omega (arith, c.if-number-lt100.false) in
    let fits : c.args.number < 1000000 = omega (arith, c.requires.few) in
    hundreds-put c.args.number c.args.text.now.bytes c.put_short-then-number-lt10000.new.text.bytes c.push_str.new.self.bytes c.pair.result.now some fits c.put_short-then-number-lt10000.ensures.bytes c.pair.ensures.value c.push_str.ensures.bytes

pub returns-clause-bytes : goal.returns-clause-bytes
returns-clause-bytes c =
    let some : 100 ≤ c.args.number = omega (arith, c.if-number-lt10000.false) in
    let fits : c.args.number < 1000000 = omega (arith, c.requires.few) in
    let high : 100 ≤ c.args.number / 100 = omega (arith, c.if-number-lt10000.false) in
    let low : c.args.number / 100 < 1000000 = omega (arith, c.requires.few) in
    let old = c.args.text.now.bytes in
    hundreds-put c.args.number old c.push_str-2.new.self.bytes c.push_str-3.new.self.bytes c.pair-3.result.now some fits
    (hundreds-put (c.args.number / 100) old c.put_short-2.new.text.bytes c.push_str-2.new.self.bytes c.pair-2.result.now high low c.put_short-2.ensures.bytes c.pair-2.ensures.value c.push_str-2.ensures.bytes)
    c.pair-3.ensures.value c.push_str-3.ensures.bytes
