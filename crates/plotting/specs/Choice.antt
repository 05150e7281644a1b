-- RULES, The plotter 1: `--knife` and `--screen` choose the setting. Assumes nothing.
use Rattle.std.specs.Prelude.{ℕ, cond, List, Option, Some, None}
use Rattle.point.specs.declared.Setting.{Setting}
use Rattle.point.specs.declared.Setting.TheVariants.{Screen, Knife}
use Rattle.text.specs.Bytes.{bytes, same_bytes}

unfoldable pub chosen_of : List ℕ → Option Setting
chosen_of flag = cond (same_bytes flag (bytes "--knife")) (Some Knife) (cond (same_bytes flag (bytes "--screen")) (Some Screen) None)
