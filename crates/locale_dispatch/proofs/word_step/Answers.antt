-- `locale_dispatch::word_step` meets its contract: each keyword's function.
use Rattle.locale_declarations.proofs.DispatchLaws.{still-step, still-at-step, writes-step}
use Rattle.locale_dispatch.proofs.StepLaws.{may-define, may-undef, may-ifdef, may-ifndef, branch-elif, branch-else, branch-endif, opened-symbol, opened-element, opened-start, opened-stop, opened_after, opened-back, opened-end, word_sound, word-holding, word_some, word-few, undefined-word, step_other}
use Rattle.locale_dispatch.proofs.word_step.Goals as goal

pub define_line-requires : goal.define_line-requires
define_line-requires c = search may-define

pub define_line-requires-in-Undef : goal.define_line-requires-in-Undef
define_line-requires-in-Undef c = search may-undef

pub if_line-requires : goal.if_line-requires
if_line-requires c = search may-ifdef

pub if_line-requires-in-Ifndef : goal.if_line-requires-in-Ifndef
if_line-requires-in-Ifndef c = search may-ifndef

pub returns-in-Elif : goal.returns-in-Elif
returns-in-Elif c = search branch-elif

pub returns-in-Else : goal.returns-in-Else
returns-in-Else c = search branch-else

pub returns-in-Endif : goal.returns-in-Endif
returns-in-Endif c = search branch-endif

pub symbol_step-requires : goal.symbol_step-requires
symbol_step-requires c = record { opened = search opened-symbol; sound = search word_sound }

pub returns-in-Symbol : goal.returns-in-Symbol
returns-in-Symbol c = search writes-step

pub element_step-requires : goal.element_step-requires
element_step-requires c = record { opened = search opened-element; sound = search word_sound }

pub returns-in-Element : goal.returns-in-Element
returns-in-Element c = search writes-step

pub order_start_line-requires : goal.order_start_line-requires
order_start_line-requires c = search opened-start

pub returns-in-OrderStart : goal.returns-in-OrderStart
returns-in-OrderStart c = search still-step

pub order_end_line-requires : goal.order_end_line-requires
order_end_line-requires c = search opened-stop

pub returns-in-OrderEnd : goal.returns-in-OrderEnd
returns-in-OrderEnd c = search still-step

pub undefined_line-requires : goal.undefined_line-requires
undefined_line-requires c = (search word_some, search undefined-word, search word-few)

pub reorder_after_line-requires : goal.reorder_after_line-requires
reorder_after_line-requires c = record { opened = search opened_after; holding = search word-holding }

pub returns-in-ReorderAfter : goal.returns-in-ReorderAfter
returns-in-ReorderAfter c = search writes-step

pub reorder_end_line-requires : goal.reorder_end_line-requires
reorder_end_line-requires c = search opened-back

pub returns-in-ReorderEnd : goal.returns-in-ReorderEnd
returns-in-ReorderEnd c = search still-step

pub end_line-requires : goal.end_line-requires
end_line-requires c = search opened-end

pub returns-in-End : goal.returns-in-End
returns-in-End c = search still-at-step

pub returns-in-Other : goal.returns-in-Other
returns-in-Other c = search step_other
