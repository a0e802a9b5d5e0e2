-- `text_tokens::any_token` meets its contract: a law for each kind of token.
use Rattle.text_tokens.proofs.NextLaws.{next-end, next-semi, next-comma, next-gap, next-dead, next-word-plain, next_word, next-name-inside, next-name-open, next-name, next-quote-inside, next-quote-broken, next-quote-empty, next-quote}
use borrow.Author.Rules.{rules}
use Rattle.text_tokens.proofs.any_token.Goals as goal

pub returns-in_default : goal.returns-in_default
returns-in_default c = search next-end

pub end_of_name-requires : goal.end_of_name-requires
end_of_name-requires c = next-name-inside c.args.src.signs c.args.src.bytes.now c.args.p {s = c.next_mark.result} c.requires.1 c.next_mark.ensures c.in-Some.is c.in-60.is

pub returns-in-Some-end_of_name : goal.returns-in-Some-end_of_name
returns-in-Some-end_of_name c = search next-name

pub returns-in-None : goal.returns-in-None
returns-in-None c = search next-name-open

pub end_of_quotes-requires : goal.end_of_quotes-requires
end_of_quotes-requires c = next-quote-inside c.args.src.signs c.args.src.bytes.now c.args.p {s = c.next_mark.result} c.requires.1 c.next_mark.ensures c.in-Some.is c.in-34.is

pub returns-in-59 : goal.returns-in-59
returns-in-59 c = search next-semi

pub returns-in-44 : goal.returns-in-44
returns-in-44 c = search next-comma

pub returns-in-32 : goal.returns-in-32
returns-in-32 c = search next-gap

pub returns-in-Some-end_of_quotes : goal.returns-in-Some-end_of_quotes
returns-in-Some-end_of_quotes c = search next-quote

pub returns-in_default-end_of_quotes : goal.returns-in_default-end_of_quotes
returns-in_default-end_of_quotes c = search next-quote-empty

pub returns-in_default-end_of_quotes-2 : goal.returns-in_default-end_of_quotes-2
returns-in_default-end_of_quotes-2 c = search next-quote-broken

pub returns-in-256-to-65535 : goal.returns-in-256-to-65535
returns-in-256-to-65535 c = search next-dead

pub end_of_word-requires : goal.end_of_word-requires
end_of_word-requires c = next-word-plain c.args.src.signs c.args.src.bytes.now c.args.p {s = c.next_mark.result} c.requires.1 c.next_mark.ensures c.in-Some.is
    (search rules) (search rules) (search rules) (search rules) (search rules) (search rules) (search rules)

pub returns-in_default-m : goal.returns-in_default-m
returns-in_default-m c = next_word c.args.src.signs c.args.src.bytes.now c.args.p {s = c.next_mark.result} c.requires.1 c.next_mark.ensures c.in-Some.is
    (search rules) (search rules) (search rules) (search rules) (search rules) (search rules) (search rules) c.end_of_word.ensures c.bare-in_default-m.ensures
