-- Watched conditions, and the index by what they read.
use Rattle.std.specs.Prelude.{◌≡◌, ◌≢◌, ℕ, Bool, true, false, Option, None, List, slice_index_or}
use Rattle.std.specs.List.{list_any}
use Rattle.std.specs.Option.{option_map_or}
use Rattle.ps_world.specs.Trees.{CondTree}
use Rattle.ps_action.specs.Arcs.{meets}
use Rattle.ps_action.specs.Touching.{read_by_list}
use Rattle.ps_action.specs.declared.touched.Touched.{Touched}
use Rattle.ps_users.specs.Users.{Users, uses}

-- the condition at the place of an act, if it is watched
abbrev pub watch_at : List (Option (List CondTree)) → ℕ → Option (List CondTree)
watch_at watches act = slice_index_or watches act None

-- whether a watched condition reads something that meets this
abbrev pub is_read : Touched → Option (List CondTree) → Bool
is_read t over = option_map_or (λ cs. list_any (meets t) (read_by_list cs)) over false

-- the acts but the first that read what meets something are found by it
pub record IsIndexed (watches : List (Option (List CondTree))) (readers : Users) : Type 0 where
  pub whole : (act : ℕ) (t : Touched) → act ≢ 0 → is_read t (watch_at watches act) ≡ true → uses readers t act ≡ true
