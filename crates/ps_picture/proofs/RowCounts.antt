-- How many rows there are.
use Rattle.std.proofs.Common.{◌≡◌, ℕ, suc, List, [], ◌∷◌, length, ap, refl}
use Rattle.ps_action.specs.declared.acts.Act.{Act}
use Rattle.ps_picture.specs.Rows.{Placed, act_rows}

-- each act has one row
pub act_rows-length : (last : ℕ) (es : List Placed) (place : ℕ) (acts : List Act)
    → length (act_rows last es place acts) ≡ length acts
act_rows-length last es place [] = refl
act_rows-length last es place (act ∷ acts) = ap suc (act_rows-length last es (suc place) acts)
