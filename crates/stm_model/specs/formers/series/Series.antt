-- How a `Series` holds its entries: it is the list of them. So a type may hold a `Series` of itself.
use mathlib.Core.Path.{◌≡◌, refl, sym}
use mathlib.Core.List.{List, []}
use mathlib.Core.Former.{Former, this, list, via, children}
use base.Stored.{code_map}
use denote.RattleType.{RattleType}
use denote.HoleLaws.{Alike}
use denote.HolePlaces.{Recodes, struct_places, laid}
use denote.Hole.Carrier.{listed, list-listed}
use denote.Hole.Fix.{over}
use denote.Param.Weighed.{Weighed, w_list}
use denote.Model.Placed.{view_places}
use Rattle.std.specs.formers.vec.Vec as vec
use Rattle.std.specs.declared.alloc.Global.{Global}
use Rattle.std.specs.contracts.alloc.Global as heap
use Rattle.std.specs.contracts.impls.GlobalAllocator.TheImpl.{ghosts}
use Rattle.stm_model.specs.declared.series.Series.TheInside.{Inside}
use Rattle.stm_model.specs.declared.series.Series.TheView.{view, invariant}
use Rattle.stm_model.specs.contracts.series.Series as series
use Rattle.stm_model.specs.contracts.series.Series.TheInside as fields_of

-- a list of what is held
abbrev pub the_former : Former {0} → Former {0}
the_former held = list held

abbrev pub the_weighed : {held : Former {0}} → Weighed held → Weighed (the_former held)
the_weighed weighed = w_list weighed

pub the_empty : List ⊥
the_empty = []

abbrev pub the_items : (X : Type 0) → List X → List X
the_items X entries = entries

pub the_items_listed : (X : Type 0) (entries : List X) → listed _ (children (the_former this) X entries) ≡ the_items X entries
the_items_listed X entries = list-listed X entries

-- the one field, a `Vec`
abbrev vec_field : Former {0}
vec_field =
    via (vec.the_former this Global) Inside (λ X inside. inside.entries) (λ X entries. record { entries = entries }) (λ X inside. refl) (λ X entries. refl)

module _ (R S : RattleType) (h : R.Denot → S.Denot) where
  pub the_places : Alike R S h → Alike (series.the_row R) (series.the_row S) ((the_former this).map R.Denot S.Denot h)
  the_places alike =
      view_places vec_field (list this) view (λ X Y k inside. refl) (λ X inside. refl) R.Denot S.Denot h
      (series.the_row R).coded (series.the_row S).coded (invariant R.Denot) (invariant S.Denot)
      (λ inside p q. refl) (λ inside p q. refl) (λ inside e. tt) (λ inside e. tt)
      (over (fields_of.the_row R)) (over (fields_of.the_row S))
      (struct_places (fields_of.the_type R) (fields_of.the_type S) (vec.mapped h, tt) _ (λ d. refl) refl
      (laid _ _ _ (vec.the_places heap.the_row ghosts R S h alike), tt))

  pub the_codes_placed : Recodes R S h → Recodes (series.the_row R) (series.the_row S) ((the_former this).map R.Denot S.Denot h)
  the_codes_placed recodes entries = sym (code_map R.coded.code S.coded.code h (λ x. sym (recodes x)) entries)
