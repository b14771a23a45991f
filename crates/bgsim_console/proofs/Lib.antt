mod RunTexts
