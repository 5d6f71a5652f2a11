-- Private: what is open, as the reader keeps it.
use Rattle.std.specs.Prelude.{nat_eq, if◌then◌else◌, List, [], ◌∷◌, ◌++◌, length}
use Rattle.ledger_model.specs.declared.script.Script.{Script}
use Rattle.ledger_model.specs.declared.script.Statement.{Statement}
use Rattle.ledger_model.specs.declared.script.Statement.TheVariants as made
use Rattle.script_text.specs.declared.frames.Begun.{Begun}
use Rattle.script_text.specs.declared.frames.Begun.TheVariants as begun
use Rattle.script_text.specs.declared.frames.Frame.{Frame}
use Rattle.script_text.specs.Standing.{Opener, OfScript, OfInner, OfEither, OfOr, OfLate}

abbrev pub opener_by : Begun → Opener
opener_by begun.Script = OfScript
opener_by (begun.Inner r) = OfInner
opener_by (begun.Either parts) = if nat_eq (length parts) 0 then OfEither else OfOr
opener_by begun.Late = OfLate

abbrev pub opener_of : Frame → Opener
opener_of frame = opener_by frame.begun

-- The scripts that come of what is open, where `block` is what the innermost block has so far and `rests` the rest of each. Where one has no rest, none comes of it.
abbrev pub closed : List Frame → List Statement → List (List Statement × List (List Statement)) → List Script
closed [] block rests = []
closed (frame ∷ frames) block [] = []
closed (frame ∷ frames) block (rest ∷ rests) = elim frame.begun [
  | begun.Script ↦ record { block = block ++ rest.0 } ∷ closed frames frame.outer rests
  | begun.Inner r ↦ closed frames (frame.outer ++ made.Inner r (block ++ rest.0) ∷ []) rests
  | begun.Either parts ↦ closed frames (frame.outer ++ made.Either (parts ++ (block ++ rest.0) ∷ rest.1) ∷ []) rests
  | begun.Late ↦ closed frames (frame.outer ++ made.Late (block ++ rest.0) ∷ []) rests
]
