-- Private: a cursor on its way from one point to the next.
use Rattle.std.specs.Prelude.{◌≡◌, ℕ, ◌+◌, ◌<◌, Option, Some, None}
use Rattle.ledger_model.specs.Talk.{Talk, spoken}
use Rattle.ledger_model.specs.declared.script.Statement.{Statement}
use Rattle.script_cursor.specs.declared.coming.End.{End}
use Rattle.script_cursor.specs.declared.cursor.Cursor.{Cursor}
use Rattle.script_cursor.specs.declared.place.Frame.{Frame}
use Rattle.script_cursor.specs.Cursors.{end_of, frame_work, left, next_by, next_of, talk_of, work, work_behind}

-- what is still to come, where a part has ended so, or else from the point on
abbrev pub talk_by : Option End → Cursor → Talk
talk_by None c = talk_of c
talk_by (Some end) c = next_of c (end_of end) c.own

abbrev pub left_by : Option End → Cursor → ℕ
left_by None c = left c
left_by (Some end) c = 2 + work_behind c

-- This talk is still to come, with less than so much left to do.
pub record Comes (talk : Talk) (most : ℕ) (went : Option End) (c : Cursor) : Type 0 where
  pub comes : talk_by went c ≡ talk
  pub less : left_by went c < most

-- from before a statement into it
abbrev pub Begins : Statement → Cursor → Option End → Cursor → Type 0
Begins statement before = Comes ((spoken statement).says before.own (next_of before)) (2 + work statement + work_behind before)

-- from the end of the part inside a frame, without that frame, behind it
abbrev pub GoesOn : Frame → End → Cursor → Option End → Cursor → Type 0
GoesOn frame end before = Comes (next_by frame (next_of before) (end_of end) before.own) (2 + frame_work frame + work_behind before)

-- from the end of a part behind it
abbrev pub Proceeds : End → Cursor → Option End → Cursor → Type 0
Proceeds end before = Comes (talk_by (Some end) before) (left_by (Some end) before)
