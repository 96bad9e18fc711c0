-- Effects that stand once, with no condition, stand for the same in every state.
use Rattle.std.proofs.Common.{◌≡◌, true, false, not, Option, Some, None, option_to_list, List, [], ◌∷◌, ◌++◌, flat_map, map, refl}
use Rattle.std.specs.Prelude.{is_some}
use Rattle.std.specs.List.{list_all, list_any}
use Rattle.std.specs.Option.{option_map_or}
use Rattle.std.specs.Cmp.{first_so, second_so}
use Rattle.std.proofs.lemmas.Bool.{and_from}
use Rattle.ps_world.specs.declared.actions.Effect.{Effect}
use Rattle.ps_world.specs.declared.actions.Effect.TheVariants.{Add, Delete, Number}
use Rattle.ps_world.specs.declared.actions.Guarded.TheVariants.{Plain, When}
use Rattle.ps_world.specs.declared.actions.Spread.{Spread}
use Rattle.ps_world.specs.declared.actions.Spread.TheVariants.{Once, ForAll}
use Rattle.ps_world.specs.declared.domains.Domain.{Domain}
use Rattle.ps_world.specs.declared.known.Knowledge.{Knowledge}
use Rattle.ps_world.specs.declared.names.Name.{Name}
use Rattle.ps_action.specs.Effects.{flat, flat_spread}
use Rattle.ps_action.specs.Grounding.{put_effect, put_spread}
use Rattle.ps_action.proofs.Plainly.{no_effects}
use Rattle.ps_ground.specs.Prepared.{alone_in, is_alone, is_flag, is_number, plain_of, put_alone}
use Rattle.ps_ground.proofs.MayAdd.{join_none}

module _ (d : Domain) (k : Knowledge) where
  flat_one : (s : Spread) → is_alone s ≡ true → flat_spread d k s ≡ alone_in s
  flat_one (Once (Plain e)) h = no_effects (e ∷ [])
  flat_one (Once (When c es)) h = absurd (cc)
  flat_one (ForAll ps gs) h = absurd (cc)

  -- they stand for themselves
  pub flat_alone : (es : List Spread) → list_all is_alone es ≡ true → flat d k es ≡ flat_map alone_in es
  flat_alone [] h = refl
  flat_alone (s ∷ es) h =
      let here = is_alone s in
      let rest = list_all is_alone es in
      λ i. flat_one s (first_so here rest h) i ++ flat_alone es (second_so here rest h) i

  module _ (args : List Name) where
    put_one : (s : Spread) → is_alone s ≡ true → flat_spread d k (put_spread args s) ≡ put_alone args s
    put_one (Once (Plain e)) h = no_effects (put_effect args e ∷ [])
    put_one (Once (When c es)) h = absurd (cc)
    put_one (ForAll ps gs) h = absurd (cc)

    -- so it is with arguments put in
    pub flat_put : (es : List Spread) → list_all is_alone es ≡ true → flat d k (map (put_spread args) es) ≡ flat_map (put_alone args) es
    flat_put [] h = refl
    flat_put (s ∷ es) h =
        let here = is_alone s in
        let rest = list_all is_alone es in
        λ i. put_one s (first_so here rest h) i ++ flat_put es (second_so here rest h) i

-- ---- those that give no number

some_flag : (o : Option Effect) → option_map_or (λ e. not (is_number e)) o false ≡ true → is_some o ≡ true
some_flag None h = absurd (cc)
some_flag (Some e) h = refl

-- they stand once, with no condition
pub flags_alone : (es : List Spread) → list_all is_flag es ≡ true → list_all is_alone es ≡ true
flags_alone [] h = refl
flags_alone (s ∷ es) h =
    let here = is_flag s in
    let rest = list_all is_flag es in
    and_from (is_alone s) (list_all is_alone es) (some_flag (plain_of s) (first_so here rest h)) (flags_alone es (second_so here rest h))

module _ (args : List Name) where
  no_number : (o : Option Effect) → option_map_or (λ e. not (is_number e)) o false ≡ true → list_any is_number (map (put_effect args) (option_to_list o)) ≡ false
  no_number None h = refl
  no_number (Some (Add l)) h = refl
  no_number (Some (Delete l)) h = refl
  no_number (Some (Number how l x)) h = absurd (cc)

  -- with arguments put in too
  pub no_numbers : (es : List Spread) → list_all is_flag es ≡ true → list_any is_number (flat_map (put_alone args) es) ≡ false
  no_numbers [] h = refl
  no_numbers (s ∷ es) h =
      let here = is_flag s in
      let rest = list_all is_flag es in
      join_none is_number (put_alone args s) (flat_map (put_alone args) es) (no_number (plain_of s) (first_so here rest h)) (no_numbers es (second_so here rest h))
