-- Lines of a form: their parentheses.
use Rattle.std.proofs.Common.{◌≡◌, ℕ, true, List, Option, refl}
use Rattle.ps_lists.specs.Lexemes.{marks}
use Rattle.ps_lists.specs.Spelling.{is_balanced}
use Rattle.ps_lists.specs.declared.lexemes.Lexeme.{Lexeme}
use Rattle.ps_script.specs.Judged.{Fits, front}
use Rattle.ps_script.proofs.Balance.{are_paired, open_before, start_closed, start_paired}
use Rattle.ps_script.proofs.Fronts.{front_balance}
use Rattle.ps_members.specs.Forms.{start_of}
use Rattle.ps_members.specs.declared.forms.Form.{Form}
use Rattle.ps_members.specs.declared.forms.Form.TheVariants.{Edit}

form_paired : (f : Form) → are_paired (start_of f) ≡ true
form_paired (Edit f) = start_paired f
form_paired f = refl

form_closed : (f : Form) → open_before (start_of f) ≡ 0
form_closed (Edit f) = start_closed f
form_closed f = refl

-- what fits the form of a line is balanced once its lists are closed
pub fit_balance : (f : Form) (ls : List Lexeme) (found : Option ℕ) → Fits (start_of f) (marks ls) found → is_balanced 0 (marks (front found ls)) ≡ true
fit_balance f ls found fits = front_balance (start_of f) ls found (form_paired f) (form_closed f) fits
