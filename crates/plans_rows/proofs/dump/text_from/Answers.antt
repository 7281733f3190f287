use Rattle.std.proofs.Common.{IsUtf8, drop, take, ◌-◌, rules}
use Rattle.std.proofs.lemmas.Str.{IsAscii-take, IsUtf8-from_ascii}
use Rattle.plans_rows.proofs.dump.text_from.Goals as goal

pub unwrap-requires : goal.unwrap-requires
unwrap-requires c =
    let text : IsUtf8 (take (480 - c.args.at) (drop c.args.at c.args.text.now)) = IsUtf8-from_ascii _ (IsAscii-take (drop c.args.at c.args.text.now) (480 - c.args.at) c.requires.letters) in
    search rules
