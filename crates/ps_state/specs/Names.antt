-- What entries say of all performers, by their names.
use Rattle.std.specs.Prelude.{ℕ, Bool, false, not, ◌&&◌, is_some, List}
use Rattle.std.specs.List.{list_all, list_any}
use Rattle.std.specs.Option.{option_map_or}
use Rattle.ps_world.specs.declared.names.Name.{Name}
use Rattle.ps_machine.specs.declared.inputs.Input.{Input}
use Rattle.ps_machine.specs.declared.members.Member.{Member}
use Rattle.ps_machine.specs.declared.journal.PassWhy.TheVariants as pass
use Rattle.ps_machine.specs.declared.journal.Entry.{Entry}
use Rattle.ps_rules.specs.Auctions.{is_engaged, pass_of}
use Rattle.ps_rules.specs.Legal.{is_pass, matches_act}
use Rattle.ps_machine.specs.declared.members.Performer.{Performer}
use Rattle.ps_rules.specs.Members.{as_performer, performers}

-- whether each of these performers passed a request
abbrev pub all_passed : ℕ → List Entry → List Name → Bool
all_passed r es names = list_all (λ n. is_some (pass_of r n es)) names

-- whether one of these performers passed a request since it was engaged
abbrev pub any_busy : ℕ → List Entry → List Name → Bool
any_busy r es names = list_any (λ n. is_pass pass.Busy (pass_of r n es)) names

-- whether none of these performers is engaged
abbrev pub none_engaged : List Entry → List Name → Bool
none_engaged es names = list_all (λ n. not (is_engaged n es)) names

-- whether a performer does this act, and isn't engaged
abbrev pub is_at_hand : Performer → ℕ → List Entry → Bool
is_at_hand p act es = matches_act p act es && not (is_engaged p.name es)

-- whether a member is a performer that does this act, and isn't engaged
abbrev pub can_serve : ℕ → List Entry → Member → Bool
can_serve act es m = option_map_or (λ p. is_at_hand p act es) (as_performer m) false

-- whether no performer of an input is engaged
abbrev pub all_free : Input → List Entry → Bool
all_free i es = list_all (λ p. not (is_engaged p.name es)) (performers i)
