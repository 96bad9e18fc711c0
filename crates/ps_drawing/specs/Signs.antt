-- The words and signs of a picture, in both of its forms.
use Rattle.std.specs.Prelude.{ℕ, List, ◌++◌, codes}
use Rattle.std.specs.Fmt.{decimal}
use Rattle.ps_world.specs.Names.{Table, name_text}
use Rattle.ps_machine.specs.Texts.{act_text, outcome_text}
use Rattle.ps_machine.specs.declared.journal.RunKind.TheVariants as kind
use Rattle.ps_picture.specs.declared.courses.Close.{Close}
use Rattle.ps_picture.specs.declared.courses.Close.TheVariants.{Cut, NewPlan, Over}
use Rattle.ps_picture.specs.declared.courses.Course.{Course}
use Rattle.ps_picture.specs.declared.courses.Opening.{Opening}
use Rattle.ps_picture.specs.declared.courses.Opening.TheVariants.{Replan, Run}
use Rattle.ps_picture.specs.declared.rows.Label.{Label}
use Rattle.ps_picture.specs.declared.rows.Label.TheVariants as label
use Rattle.ps_picture.specs.declared.touches.Ending.{Ending}
use Rattle.ps_picture.specs.declared.touches.Ending.TheVariants.{Cancelled, Done, Failed, Open}
use Rattle.ps_picture.specs.declared.touches.Sign.{Sign}
use Rattle.ps_picture.specs.declared.touches.Sign.TheVariants as sign

-- the byte of a bar that ends so: = x / ~
abbrev pub ending_byte : Ending → ℕ
ending_byte Done = 61
ending_byte Failed = 120
ending_byte Cancelled = 47
ending_byte Open = 126

-- the byte of a mark: ? o . + - f e !
abbrev pub sign_byte : Sign → ℕ
sign_byte sign.Request = 63
sign_byte sign.Offer = 111
sign_byte sign.Pass = 46
sign_byte sign.Confirm = 43
sign_byte sign.Reject = 45
sign_byte sign.Feedback = 102
sign_byte sign.Edit = 101
sign_byte sign.Refused = 33

-- the word for how a bar ends
abbrev pub ending_word : Ending → List ℕ
ending_word Done = codes "done"
ending_word Failed = codes "failed"
ending_word Cancelled = codes "cancelled"
ending_word Open = codes "open"

-- whose row it is, two spaces in
abbrev pub label_text : Table → Label → List ℕ
label_text names (label.Act act) = codes " " ++ act_text names act
label_text names (label.Member n) = codes "  " ++ name_text names n

-- what made a plan
abbrev pub opening_text : Opening → List ℕ
opening_text (Run kind.Goal) = codes "run goal"
opening_text (Run kind.Plan) = codes "run plan"
opening_text (Run kind.Action) = codes "run action"
opening_text Replan = codes "new plan"

-- how a plan ends
abbrev pub close_text : Close → List ℕ
close_text (Over how) = codes "over " ++ outcome_text how
close_text NewPlan = codes "planned anew"
close_text Cut = codes "not over"

-- the lines of a plan, what made it, and how it ends
unfoldable pub heading_text : Course → List ℕ
heading_text c =
    codes "lines " ++ (decimal c.from ++ (codes " to " ++ (decimal c.to
    ++ (codes ": " ++ (opening_text c.opening ++ (codes ", " ++ close_text c.close))))))
