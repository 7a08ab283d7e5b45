-- What is printed.
use Rattle.std.specs.Prelude.{ℕ, Bool, true, false, List, ◌++◌, codes, decimal}
use Rattle.figures.specs.Printed.{word}
use Rattle.sizing.specs.declared.complaints.Complaint.{Complaint}
use Rattle.sizing.specs.declared.complaints.Complaint.TheVariants.{Missing, Unfit, Extra}
use Rattle.figures.specs.declared.limits.Form.{Form}
use Rattle.sizing.specs.declared.lines.Sizing.{Sizing}
use Rattle.sizing.specs.Arguments.{most_asked}

-- yes or no
abbrev pub answer : Bool → List ℕ
answer true = codes "yes"
answer false = codes "no"

-- the figures that were asked for, one to a line
abbrev pub figure_lines : Form → List ℕ
figure_lines form =
    codes "workers W: " ++ (decimal form.workers
    ++ (codes "\nholds H: " ++ (decimal form.holds
    ++ (codes "\nlive blocks M: " ++ (decimal form.live
    ++ (codes "\ntaking period F: " ++ (decimal form.taking_period
    ++ (codes "\ntrying period G: " ++ (decimal form.trying_period ++ codes "\n")))))))))

-- and then what they come to
abbrev pub sizing_lines : Sizing → List ℕ
sizing_lines sizing =
    figure_lines sizing.form
    ++ (codes "most retired blocks: " ++ (decimal sizing.ceiling
    ++ (codes "\nblocks needed: " ++ (decimal sizing.needed
    ++ (codes "\na keeper of at most 2048 blocks can have that many: " ++ answer sizing.met)))))

-- what a complaint says
abbrev pub complaint_line : Complaint → List ℕ
complaint_line (Missing figure) = word figure ++ (codes " is missing: give a number from 1 to " ++ decimal (most_asked figure))
complaint_line (Unfit figure) = word figure ++ (codes " must be a number from 1 to " ++ decimal (most_asked figure))
complaint_line Extra = codes "the sixth argument is one too many: give workers W from 1 to 8, holds H from 1 to 4, live blocks M from 1 to 2048, taking period F from 1 to 64 and trying period G from 1 to 32"
