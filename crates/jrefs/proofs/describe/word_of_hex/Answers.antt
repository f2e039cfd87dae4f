use Rattle.std.proofs.Common.{◌≡◌, ◌<◌, ◌≤◌, ◌∙◌, true, length, rules}
use Rattle.std.specs.List.{list_all}
use Rattle.std.specs.Char.{is_ascii_hexdigit}
use Rattle.std.proofs.lemmas.Bool.{le-leb}
use Rattle.jrefs.proofs.HexWord.{read_as_word}
use Rattle.jrefs.proofs.describe.word_of_hex.Goals as goal

pub returns : goal.returns
returns c =
    let text = c.args.text.now in
    let some : 0 < length text = search rules in
    let few : length text ≤ 16 = search rules in
    let are : list_all is_ascii_hexdigit text ≡ true = search rules in
    let read = read_as_word text _ some few are c.from_str_radix.ensures.value in
    rw (le-leb 1 (length text) some, le-leb (length text) 16 few, are) (c.ok.ensures.value ∙ read)
