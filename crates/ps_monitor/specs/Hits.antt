-- Which watched acts a change may break.
use Rattle.std.specs.Prelude.{◌≡◌, ℕ, ◌<◌, ◌==◌, ◌||◌, if◌then◌else◌, Bool, true, false, Option, Some, None, List, filter}
use Rattle.std.specs.Option.{option_map_or}
use Rattle.std.specs.List.{range_with_len}
use Rattle.ps_world.specs.Trees.{CondTree}
use Rattle.ps_world.specs.declared.domains.Domain.{Domain}
use Rattle.ps_world.specs.declared.known.Knowledge.{Knowledge}
use Rattle.ps_action.specs.Arcs.{meet}
use Rattle.ps_action.specs.Touching.{read_by_list}
use Rattle.ps_action.specs.declared.touched.Touched.{Touched}
use Rattle.ps_monitor.specs.Naming.{NamesChange}
use Rattle.ps_monitor.specs.Watched.{is_false}

-- Whether something in a list hits a watched condition: a fact or a value that it reads, or that stands where a variable of it may lead, or
-- an instance that it names, or any instance where it binds variables.
abbrev pub is_hit : List Touched → Option (List CondTree) → Bool
is_hit changed over = option_map_or (λ cs. meet changed (read_by_list cs)) over false

-- the watched acts below n that something in a list hits, in rising order
abbrev pub hit : List Touched → (ℕ → Option (List CondTree)) → ℕ → List ℕ
hit changed watches n = filter (λ act. is_hit changed (watches act)) (range_with_len 0 n)

-- whether an act is the one that has just started
abbrev pub is_started : Option ℕ → ℕ → Bool
is_started None act = false
is_started (Some started) act = act == started

-- the watched conditions without that of an act that has just started, which wasn't watched before
abbrev pub but_for : Option ℕ → (ℕ → Option (List CondTree)) → ℕ → Option (List CondTree)
but_for started watches act = if is_started started act then None else watches act

-- the acts below n that have just started or that something in a list hits, in rising order
abbrev pub due : List Touched → Option ℕ → (ℕ → Option (List CondTree)) → ℕ → List ℕ
due changed started watches n = filter (λ act. is_started started act || is_hit changed (watches act)) (range_with_len 0 n)

-- Before a change that is named so, each watched condition held that is false now and that nothing in the list hits.
pub record HeldBefore (d : Domain) (now : Knowledge) (watches : ℕ → Option (List CondTree)) (changed : List Touched) : Type 0 where
  pub before : Knowledge
  pub named : NamesChange changed before now
  pub held : (act : ℕ) → act < 256 → is_hit changed (watches act) ≡ false → is_false d now (watches act) ≡ true → is_false d before (watches act) ≡ false
