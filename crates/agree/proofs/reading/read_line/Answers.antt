-- What was not looked at says nothing.
use Rattle.std.proofs.Common.{sym, ◌∙◌}
use Rattle.agree.proofs.Words.{remark, line}
use Rattle.agree.proofs.reading.read_line.Goals as goal

pub returns-then-is_remark : goal.returns-then-is_remark
returns-then-is_remark c =
    remark c.args.text.now c.split_whitespace-words.result c.next.new.self c.in-Some.name c.split_whitespace-words.ensures.rest c.utf8.text c.in-Some.ensures.steps (sym c.is_remark.ensures ∙ c.if-is_remark.true)

pub returns : goal.returns
returns c =
    line c.args.text.now c.read_behind.result c.split_whitespace-words.result c.next.new.self c.next-first.new.self c.next-second.new.self c.next-third.new.self c.in-Some.name c.next-first.result c.next-second.result c.next-third.result
    c.split_whitespace-words.ensures.rest c.utf8.text c.in-Some.ensures.steps c.next-first.ensures.steps c.next-second.ensures.steps c.next-third.ensures.steps (sym c.is_remark.ensures ∙ c.if-is_remark.false) c.read_behind.ensures
