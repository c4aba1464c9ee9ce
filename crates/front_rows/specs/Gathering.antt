-- What the answers of several parts have.
use Rattle.std.specs.Prelude.{List, []}
use Rattle.std.specs.List.{flat_map}
use Rattle.sql_values.specs.declared.value.Value.{Value}
use Rattle.sql_text.specs.declared.link.LinkAnswer.{LinkAnswer}
use Rattle.sql_text.specs.declared.link.LinkAnswer.TheVariants.{Rows, Cells}
use Rattle.front_rows.specs.Cells.{Cell}

-- the rows of an answer; another answer has none
abbrev pub answer_rows : LinkAnswer → List (List Value)
answer_rows (Rows rows) = rows
answer_rows _ = []

-- the rows of all parts, one part after the other
abbrev pub all_rows : List LinkAnswer → List (List Value)
all_rows parts = flat_map answer_rows parts

-- the rows of cells of an answer; another answer has none
abbrev pub answer_cells : LinkAnswer → List (List Cell)
answer_cells (Cells rows) = rows
answer_cells _ = []

abbrev pub all_cells : List LinkAnswer → List (List Cell)
all_cells parts = flat_map answer_cells parts
