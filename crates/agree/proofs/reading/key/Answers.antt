-- What `parse` gives is the number.
use Rattle.std.proofs.Common.{rules, ◌≡◌, ◌∙◌}
use Rattle.agree.proofs.Numbers.{ok_of, parsed_number}
use Rattle.agree.proofs.reading.key.Goals as goal

pub returns : goal.returns
returns c =
    let told : c.ok.result ≡ ok_of c.parse.result = search rules in
    told ∙ parsed_number 8 c.args.word.now c.parse.result c.parse.ensures.value.0
