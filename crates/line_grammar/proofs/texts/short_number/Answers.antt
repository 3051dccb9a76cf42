use Rattle.std.proofs.lemmas.Bool.Decides.{nat_tests}
use Rattle.std.proofs.Common.{◌≡◌, ◌<◌, length, true, sym, ap, ◌∙◌, get_or, take, arith}
use Rattle.std.specs.Char.{is_ascii_digit}
use Rattle.std.specs.Str.Parse.{AllDigits, digits_value}
use Rattle.std.proofs.lemmas.Int.Digits.{digits_value_more}
use Rattle.std.proofs.lemmas.List.{take_all}
use Rattle.line_grammar.proofs.ShortNumbers.{short_front, value_of_digit, digit_more, short_is_number, short_is_small}
use Rattle.line_grammar.proofs.texts.short_number.Goals as goal

pub overflow_mul-value : goal.overflow_mul-value
overflow_mul-value c =
    let l = c.loop-byte in
    omega (arith, l.invariant.value, short_front c.args.text.now l.byte-index l.invariant.digits c.loop-byte-test.true c.if-text-gt-SHORT_NUMBER_DIGITS.false)

pub overflow_add-value : goal.overflow_add-value
overflow_add-value c =
    let l = c.loop-byte in
    omega (arith, l.invariant.value, c.from.ensures, c.type_inv.text l.byte-index, short_front c.args.text.now l.byte-index l.invariant.digits c.loop-byte-test.true c.if-text-gt-SHORT_NUMBER_DIGITS.false)

pub loop-byte-preserved : goal.loop-byte-preserved
loop-byte-preserved c =
    let l = c.loop-byte in
    let digit : is_ascii_digit (get_or c.args.text.now l.byte-index 0) ≡ true = sym c.is_ascii_digit.ensures.value ∙ c.if-not-is_ascii_digit.false in
    record {
      digits = digit_more c.args.text.now l.byte-index c.loop-byte-test.true digit l.invariant.digits;
      value = omega (arith, l.invariant.value, c.from.ensures, value_of_digit (get_or c.args.text.now l.byte-index 0) digit, digits_value_more 10 c.args.text.now l.byte-index c.loop-byte-test.true);
    }

pub returns : goal.returns
returns c =
    let l = c.loop-byte in
    let whole : take l.byte-index c.args.text.now ≡ c.args.text.now = take_all l.byte-index c.args.text.now (omega (arith, c.loop-byte-test.false)) in
    let digits : AllDigits 10 c.args.text.now = rw whole at l.invariant.digits in
    let some : 0 < length c.args.text.now = grind (arith, nat_tests, c.is_empty.ensures, c.if-is_empty.false) in (
      short_is_number c.args.text.now digits some,
      short_is_small c.args.text.now digits c.if-text-gt-SHORT_NUMBER_DIGITS.false,
      l.invariant.value ∙ ap (λ front. digits_value 10 front) whole,
    )
