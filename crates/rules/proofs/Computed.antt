-- A declaration that says `unfolding computed` computes with every definition of the paper. Written by tests/definitions/names.py.
use mathlib.Core.List.{flatten}
use Rattle.rules.specs.Text.{bytes, every, one_of, same, is, begins, lower, lowest}
use Rattle.rules.specs.Names.{name_refusal, names_refusal, hex_value, char_shaped, code_of, is_char_name}
use Rattle.rules.specs.Tokens.{lex_none, lex, lex_end, tokens_from, without_blanks, tokens_of, without_gaps, operands, tokens_refusal, plain_marks, words_of, without_opening_gaps, is_byte, is_range, is_entry}
use Rattle.rules.specs.Lines.{after, is_word_line, is_sign_line, is_sign_header, takes_as_is, opens_comment, ends_entry, scan_escaped, scan, line_from, line_of, is_sign, sign_refusal, sign_set}
use Rattle.rules.specs.Meaning.{count_all, weight_count, size_of, good_weights, good_item, has_chars, no_two_alike, good}
use Rattle.rules.specs.Conditionals.{is_toggle, is_on, turned, toggle_refusal, define_line, if_line, elif_line}
use Rattle.rules.specs.Declarations.{declares, declares_symbol, declares_chars, is_new, symbol_line, element_formed, element_line}
use Rattle.rules.specs.OrderLines.{split_at, rule_word, rule_code, rule_codes, rules_formed, order_start_line, subject_of, same_subject, stands, is_symbol, weight_refusal, weights_refusal, weight_of, weights_of, rank_from, taken_out, put_after, placed, again, order_line, reorder_after_line, reorder_end_line}
use Rattle.rules.specs.Source.{category_line, sign_line, outside_line, end_line, collate_line, token_line, whole_line, other_line, unused_line, line_outcome, lines_from}
use Rattle.rules.specs.Compile.{chars_named, chars_of, ranks_of, line_ranks, items_from, levels_of_rank, supplied, meaning_of, is_ranked, unranked, finish, compile_of}
use Rattle.rules.specs.Table.{rule_number, weight_numbers, sums, weight_lists, ends, char_numbers, doubled, mask, bucket, before, inserted, sorted, keyed, listing, item_buckets, below, starts_from, starts, stored_form, rule_of_number, unpadded, gaps, cut_by, items_at, meaning_in, accepted}
use Rattle.rules.specs.Order.{good_string, longest, undefined_from, step_of, elements, weights_at, more, entries_from, walked, level_entries, codes, levels_from, levels_of, sign_ℕ, sign_entry, sign_list, common, answer_from, compare_of, level_key, codes_key, levels_key, key_of, sign_bytes}
use Rattle.rules.specs.Charmap.{sign_header, header_line, counted, gives_byte, is_given, entry_line, body_line, map_lines_from, code_given, first_byte, encodes, numbers_from, area_of, charmap_of}
use Rattle.rules.specs.Coding.{good_ones, ones_of, one_each, area_accepted, byte_from, decode_of, encode_of}
use Rattle.rules.specs.Directory.{parts_of, part_at, string_of, in_run, parts_fit, good_part, first_of, first_weight, part_weight, plain_first, rising, good_headings, last_not_above, heading_of, directory_of}
use Rattle.rules.specs.Calls.{cleared, compiled_as, compile_call, check_call, step_call, compare_call, written_as, key_for, key_call, decode_call, encode_call, mapped_as, charmap_call, area_call, directed_as, directory_call}
use Rattle.rules.specs.Pairs.{locale_file, charmap_file, digits_in, texts_from, compared_line, refused_line, pair_line, pair_lines, file_line, pairs_with, pairs_from, pairs_of}

unfoldable pub computed : Unit {0}
unfolding flatten bytes every one_of same is begins lower lowest name_refusal names_refusal hex_value char_shaped code_of is_char_name lex_none lex lex_end tokens_from without_blanks tokens_of without_gaps operands tokens_refusal plain_marks words_of without_opening_gaps is_byte is_range is_entry after is_word_line is_sign_line is_sign_header takes_as_is opens_comment ends_entry scan_escaped scan line_from line_of is_sign sign_refusal sign_set count_all weight_count size_of good_weights good_item has_chars no_two_alike good is_toggle is_on turned toggle_refusal define_line if_line elif_line declares declares_symbol declares_chars is_new symbol_line element_formed element_line split_at rule_word rule_code rule_codes rules_formed order_start_line subject_of same_subject stands is_symbol weight_refusal weights_refusal weight_of weights_of rank_from taken_out put_after placed again order_line reorder_after_line reorder_end_line category_line sign_line outside_line end_line collate_line token_line whole_line other_line unused_line line_outcome lines_from chars_named chars_of ranks_of line_ranks items_from levels_of_rank supplied meaning_of is_ranked unranked finish compile_of rule_number weight_numbers sums weight_lists ends char_numbers doubled mask bucket before inserted sorted keyed listing item_buckets below starts_from starts stored_form rule_of_number unpadded gaps cut_by items_at meaning_in accepted good_string longest undefined_from step_of elements weights_at more entries_from walked level_entries codes levels_from levels_of sign_ℕ sign_entry sign_list common answer_from compare_of level_key codes_key levels_key key_of sign_bytes sign_header header_line counted gives_byte is_given entry_line body_line map_lines_from code_given first_byte encodes numbers_from area_of charmap_of good_ones ones_of one_each area_accepted byte_from decode_of encode_of parts_of part_at string_of in_run parts_fit good_part first_of first_weight part_weight plain_first rising good_headings last_not_above heading_of directory_of cleared compiled_as compile_call check_call step_call compare_call written_as key_for key_call decode_call encode_call mapped_as charmap_call area_call directed_as directory_call locale_file charmap_file digits_in texts_from compared_line refused_line pair_line pair_lines file_line pairs_with pairs_from pairs_of
computed = tt
