use Rattle.std.proofs.Common.{fold, sym, ap, ◌∙◌}
use Rattle.hashing.specs.Fnv.{mixed, octets, fnv1a_words}
use Rattle.hashing.proofs.fnv.Fnv1aWordHash.hash.Goals as goal

pub returns-in-Two : goal.returns-in-Two
returns-in-Two c =
    c.mix_word-in-Two-2.ensures
    ∙ ap (λ h. fold mixed h (octets c.in-Two.b)) c.mix_word-in-Two.ensures
    ∙ sym (ap fnv1a_words c.in-Two.is)

pub returns-in-Three : goal.returns-in-Three
returns-in-Three c =
    c.mix_word-in-Three-3.ensures
    ∙ ap (λ h. fold mixed h (octets c.in-Three.c))
    (c.mix_word-in-Three-2.ensures ∙ ap (λ h. fold mixed h (octets c.in-Three.b)) c.mix_word-in-Three.ensures)
    ∙ sym (ap fnv1a_words c.in-Three.is)
