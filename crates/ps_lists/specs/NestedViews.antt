-- One level of nested lists.
use Rattle.ps_lists.specs.Nested.{Nested, word, group}
use Rattle.ps_lists.specs.declared.trees.Tree.{Tree}
use Rattle.ps_lists.specs.declared.trees.Tree.TheVariants.{Word, Group}

-- what a tree is to contracts
abbrev pub nested : Tree → Nested
nested (Word l) = word l
nested (Group ts) = group ts
