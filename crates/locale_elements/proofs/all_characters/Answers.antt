use Rattle.locale_elements.proofs.CharacterLaws.{passed_none, passed-end, passed_to, passed-inside, passed-less, passed-more, passed-open, passed-not}
use Rattle.locale_elements.proofs.all_characters.Goals as goal

pub loop-i-init : goal.loop-i-init
loop-i-init c = search passed_none

pub returns : goal.returns
returns c = search passed-end

pub is_char_name-requires : goal.is_char_name-requires
is_char_name-requires c = search passed_to

pub end_of_name-requires : goal.end_of_name-requires
end_of_name-requires c = (search passed_to, search passed-inside)

pub loop-i-smaller : goal.loop-i-smaller
loop-i-smaller c = search passed-less

pub loop-i-preserved : goal.loop-i-preserved
loop-i-preserved c = search passed-more

pub returns-in_default-end_of_name : goal.returns-in_default-end_of_name
returns-in_default-end_of_name c = search passed-open

pub returns-then-not-is_char_name : goal.returns-then-not-is_char_name
returns-then-not-is_char_name c = search passed-not
