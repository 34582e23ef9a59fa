-- `words::spell`: a fold over the characters.
use Rattle.std.proofs.Common.{◌≡◌, ◌∙◌, sym, rules}
use Rattle.std.specs.List.{fold}
use Rattle.spelling.specs.Words.{extended}
use Rattle.assembly.proofs.WordLaws.{extended-fold}
use Rattle.assembly.proofs.words.spell.Goals as goal

pub returns : goal.returns
returns c =
    let e : c.fold.result ≡ fold extended 0 c.args.characters.now = search rules in
    e ∙ sym (extended-fold 0 c.args.characters.now)
